-- `run_end`: the edges up to the k-th vertex are passed, and the vertex before that one lies on the side of the height that the loop began on.
use mathlib.Core.Path.{◌≡◌}
use mathlib.Core.Bool.{true}
use Prim.Native.Nat.{◌+◌, ◌-◌}
use lib.IntN.{pos}
use lib.ListN.{length, get_or}
use Rattle.counter.specs.Inner.Walks.{vertex_before, beyond, Apart}
use Rattle.counter.proofs.polygon.run_end.Given as goal

abbrev pub invariant-loop-k : goal.invariant-loop-k
invariant-loop-k l = Apart l.v l.y l.i l.k × (beyond l.above (get_or l.v (vertex_before (length l.v) l.k + 1) (pos 0)) l.y ≡ true)

abbrev pub decreases-loop-k : goal.decreases-loop-k
decreases-loop-k l = l.n - l.k
