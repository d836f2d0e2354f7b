-- `find_events`: none of the lines before `at` is `events`.
use Prim.Native.Nat.{◌-◌, ◌≤◌}
use lib.ListN.{length}
use Rattle.events.proofs.PartingLaws.{is_opening}
use Rattle.events.proofs.SearchLaws.{Passed}
use Rattle.events.proofs.parting.find_events.Given as goal

abbrev pub invariant-loop-at : goal.invariant-loop-at
invariant-loop-at l = (1 ≤ l.line) × Passed is_opening l.input l.at (l.line - 1)

abbrev pub decreases-loop-at : goal.decreases-loop-at
decreases-loop-at l = length l.input - l.at
