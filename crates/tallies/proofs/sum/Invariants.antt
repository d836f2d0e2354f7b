-- `sum`: the counts below r are sums, those from r on the first tally's.
use Rattle.std.proofs.Common.{◌-◌, ◌≤◌}
use Rattle.tallies.proofs.AddingLaws.{Added}
use Rattle.tallies.proofs.sum.Given as goal

abbrev pub invariant-loop-r : goal.invariant-loop-r
invariant-loop-r l = (l.r ≤ 64) × Added l.initial.counts l.b.counts l.r l.counts

abbrev pub decreases-loop-r : goal.decreases-loop-r
decreases-loop-r l = 64 - l.r
