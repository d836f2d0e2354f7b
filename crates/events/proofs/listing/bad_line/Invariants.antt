-- `bad_line`: the k lines before `at` are good, and `columns` says how the next is read.
use Prim.Native.Nat.{◌-◌}
use lib.ListN.{length}
use Rattle.events.proofs.ListingLaws.{Read}
use Rattle.events.proofs.listing.bad_line.Given as goal

abbrev pub invariant-loop-at : goal.invariant-loop-at
invariant-loop-at l = Read l.several l.headed l.n l.part l.at l.k l.columns

abbrev pub decreases-loop-at : goal.decreases-loop-at
decreases-loop-at l = length l.part - l.at
