-- `put_line`: the first i words, each with what stands behind it, are written.
use Prim.Native.Nat.{◌*◌, ◌≤◌}
use lib.ListN.{drop}
use Rattle.planreport.specs.Inner.Compiling.{ended_words}
use Rattle.planreport.proofs.ProgressLaws.{Progress}
use Rattle.planreport.proofs.printing.put_line.Given as goal

abbrev pub invariant-loop-i : goal.invariant-loop-i
invariant-loop-i l = (l.at ≤ 22 * l.i) × Progress (ended_words l.words) l.initial.rest l.at l.rest (ended_words (drop l.i l.words))
