-- `walk`: after each edge the sum is what `walked` holds, and the point is seen from the last vertex.
use mathlib.Core.Path.{◌≡◌}
use mathlib.Core.List.{List}
use Prim.Native.Nat.{ℕ, ◌+◌, ◌-◌, ◌/◌, ◌%◌, ◌≤◌}
use lib.IntN.{ℤ, pos}
use lib.ListN.{length, get_or}
use mir.Syntax.{w64}
use mir.Val.{SFits}
use Rattle.counter.specs.Walk.{walked}
use Rattle.counter.specs.Inner.Walks.{SeenFrom, vertex_before}
use Rattle.counter.specs.declared.polygon.Offset.{Offset}
use Rattle.std.proofs.Common.{Some}
use Rattle.counter.proofs.polygon.walk.Given as goal

-- the point, seen from the vertex before the one at i
abbrev pub SeenBefore : List ℤ → ℤ → ℤ → ℕ → Offset → Type 0
SeenBefore v x y i offset = SeenFrom x y (get_or v (vertex_before (length v) i) (pos 0)) (get_or v (vertex_before (length v) i + 1) (pos 0)) offset

abbrev pub invariant-loop-i : goal.invariant-loop-i
invariant-loop-i l =
    (walked l.v l.point.x l.point.y (l.i / 2) ≡ Some l.sum) × SeenBefore l.v l.point.x l.point.y l.i l.last
    × (l.start ≤ l.i) × (l.i ≤ l.end) × (l.i % 2 ≡ 0) × SFits w64 l.sum

abbrev pub decreases-loop-i : goal.decreases-loop-i
decreases-loop-i l = l.end - l.i
