-- What a walk over a polygon's edges holds: whether an edge so far carries the point and, while none does, their sum.
-- None where one carries it, else the sum.
use Rattle.std.specs.Prelude.{cond, List, Option, None, Some, ℕ, take, ℤ, pos, ◌+ℤ◌}
use Rattle.integers.specs.Equality.{eq_z}
use Rattle.counter.specs.Polygon.{Edge, on_edge, crossing, edges, on_some, crossings}
use Rattle.counter.specs.declared.Position.{Position}
use Rattle.counter.specs.declared.Position.TheVariants.{Outside, Inside, OnOutline}

-- over some edges
unfoldable pub over : List Edge → ℤ → ℤ → Option ℤ
over es x y = cond (on_some es x y) None (Some (crossings es x y))

-- over the first k edges, the first of which leads from the last vertex to the first
unfoldable pub walked : List ℤ → ℤ → ℤ → ℕ → Option ℤ
walked v x y k = over (take k (edges v)) x y

-- past one edge more
abbrev pub past : Edge → ℤ → ℤ → Option ℤ → Option ℤ
past e x y None = None
past e x y (Some sum) = cond (on_edge e x y) None (Some (sum +ℤ crossing e x y))

-- what a walk over all edges tells
abbrev pub found : Option ℤ → Position
found None = OnOutline
found (Some sum) = cond (eq_z sum (pos 0)) Outside Inside
