-- `put_regions`: the lines of the regions below r are written.
use Prim.Native.Nat.{◌*◌, ◌≤◌}
use Rattle.events.proofs.PrintingLaws.{Written}
use Rattle.runreport.specs.Running.{number_lines}
use Rattle.runreport.proofs.printing.put_regions.Given as goal

abbrev pub invariant-loop-r : goal.invariant-loop-r
invariant-loop-r l = (l.at ≤ 42 * l.r) × Written (number_lines l.counts l.r) l.initial.out l.at l.out
