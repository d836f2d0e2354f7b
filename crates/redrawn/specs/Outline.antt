-- What is claimed of a polygon (02): "for every polygon, every starting vertex and both directions, membership and the rim bit of every event are the same",
-- and "the winding sum keeps its value under a new start and changes only its sign under reversal".
use Rattle.std.specs.Prelude.{◌≡◌, Bool, ℕ, ℤ, neg_ℤ}
use mathlib.Core.List.{List, Permᴰ}
use Rattle.counter.specs.Polygon.{winding, in_polygon}
use Rattle.counter.specs.Positions.{polygon_position}
use Rattle.redrawn.specs.Redrawing.{from_vertex, backwards, redrawn, vertices}

-- v is the flat list of its vertices, (x, y) any point
pub record SameOutline (v : List ℤ) : Type 0 where
  -- the same vertices in another order
  pub permuted : (k : ℕ) (back : Bool) → Permᴰ (vertices v) (vertices (redrawn k back v))
  -- in the polygon; and outside, inside or on the outline
  pub inside : (k : ℕ) (back : Bool) (x y : ℤ) → in_polygon (redrawn k back v) x y ≡ in_polygon v x y
  pub position : (k : ℕ) (back : Bool) (x y : ℤ) → polygon_position (redrawn k back v) x y ≡ polygon_position v x y
  -- the winding sum, also for a point on an edge
  pub sum_from : (k : ℕ) (x y : ℤ) → winding (from_vertex k v) x y ≡ winding v x y
  pub sum_back : (x y : ℤ) → winding (backwards v) x y ≡ neg_ℤ (winding v x y)
