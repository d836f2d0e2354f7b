-- `reach` meets its contract: the rows are those of round s.
use Rattle.graph.proofs.RowLaws.{Round}
use lib.ListN.{length}
use mathlib.Core.Path.{◌≡◌}
use Rattle.graph.proofs.reach.Given as goal

abbrev pub invariant-loop-s : goal.invariant-loop-s
invariant-loop-s l = (length l.initial.r.bits ≡ 64) × (length l.r.bits ≡ 64) × Round l.initial.r.bits l.s l.r.bits
