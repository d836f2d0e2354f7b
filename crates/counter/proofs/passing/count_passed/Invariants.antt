-- `count_passed`: the tally is that of the events before the j-th.
use mathlib.Core.Path.{◌≡◌}
use Prim.Native.Nat.{◌/◌, ◌+◌}
use lib.ListN.{length}
use Rattle.counter.specs.Counting.{tally_of}
use Rattle.counter.proofs.passing.count_passed.Given as goal

abbrev pub invariant-loop-rest : goal.invariant-loop-rest
invariant-loop-rest l = (l.j + l.rest ≡ length l.events / l.n) × (l.t ≡ tally_of l.plan l.events l.j)

abbrev pub decreases-loop-rest : goal.decreases-loop-rest
decreases-loop-rest l = l.rest
