-- `put_lines`: the m values of the lines before `at` are written over the beginning.
use Prim.Native.Nat.{◌-◌}
use lib.ListN.{length}
use Rattle.events.proofs.ListingLaws.{Filled}
use Rattle.events.proofs.listing.put_lines.Given as goal

abbrev pub invariant-loop-at : goal.invariant-loop-at
invariant-loop-at l = Filled l.part l.initial.list l.at l.m l.list

abbrev pub decreases-loop-at : goal.decreases-loop-at
decreases-loop-at l = length l.part - l.at
