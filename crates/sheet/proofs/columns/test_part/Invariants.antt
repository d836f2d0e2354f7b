-- `test_part`: the column lines before `at` are right, and `headed` says how the next line is read.
use Prim.Native.Nat.{◌+◌, ◌-◌}
use lib.ListN.{length}
use Rattle.sheet.proofs.ColumnLineLaws.{Tested}
use Rattle.sheet.proofs.columns.test_part.Given as goal

abbrev pub invariant-loop-at : goal.invariant-loop-at
invariant-loop-at l = Tested l.table l.part l.at l.headed

abbrev pub decreases-loop-at : goal.decreases-loop-at
decreases-loop-at l = length l.part + 1 - l.at
