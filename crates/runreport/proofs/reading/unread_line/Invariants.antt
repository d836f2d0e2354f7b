-- `unread_line`: the k lines before `at` are lines of words.
use Prim.Native.Nat.{◌-◌}
use lib.ListN.{length}
use Rattle.runreport.proofs.LineLaws.{is_unread}
use Rattle.events.proofs.SearchLaws.{Passed}
use Rattle.runreport.proofs.reading.unread_line.Given as goal

abbrev pub invariant-loop-at : goal.invariant-loop-at
invariant-loop-at l = Passed is_unread l.part l.at l.k

abbrev pub decreases-loop-at : goal.decreases-loop-at
decreases-loop-at l = length l.part - l.at
