-- What the walk's functions are handed and answer: the point seen from a vertex, one edge, edges off its height, stretches of the walk.
use Rattle.std.specs.Prelude.{◌≡◌, Bool, not, ◌&&◌, cond, List, ℕ, zero, suc, ◌+◌, ◌-◌, ◌/◌, ◌%◌, ◌<◌, ◌≤◌, ℤ, pos, ◌-ℤ◌, length, get_or, Option, Some}
use Rattle.std.specs.Int.Signed.{lt_z}
use Rattle.integers.specs.Inner.Bounds.{In}
use Rattle.counter.specs.Polygon.{edge}
use Rattle.counter.specs.Walk.{walked, past}
use Rattle.counter.specs.declared.polygon.Offset.{Offset}

-- ---- vertices

-- the point (x, y) from the vertex (vx, vy)
pub record SeenFrom (x y vx vy : ℤ) (offset : Offset) : Type 0 where
  pub right_is : offset.right ≡ x -ℤ vx
  pub up_is : offset.up ≡ y -ℤ vy

-- no two numbers on the scale are further from each other
pub record Near (offset : Offset) : Type 0 where
  pub right_in : In 131072 offset.right
  pub up_in : In 131072 offset.up

-- by the place of its x; before the first vertex stands the last
unfoldable pub vertex_before : ℕ → ℕ → ℕ
vertex_before n zero = n - 2
vertex_before n (suc i) = suc i - 2

-- ---- one edge

-- 1 where it is so, else 0
abbrev pub one : Bool → ℤ
one t = cond t (pos 1) (pos 0)

-- one of the two, and not both
abbrev pub one_of : Bool → Bool → Bool
one_of s t = cond s (not t) t

-- by how far up the point lies of each end, below 0 where that end is above it: nothing where both ends are, or neither;
-- else that the second is above, less that s is negative
abbrev pub turn_for : ℤ → ℤ → ℤ → ℤ
turn_for from to s = cond (one_of (lt_z from (pos 0)) (lt_z to (pos 0))) (one (lt_z to (pos 0)) -ℤ one (lt_z s (pos 0))) (pos 0)

-- the walk past the edge between two vertices, from which the point is seen at a and at b, whatever they are
pub record PastEdge (a b : Offset) (sum : ℤ) (r : Option ℤ) : Type 0 where
  pub is : (x y x0 y0 x1 y1 : ℤ) → SeenFrom x y x0 y0 a → SeenFrom x y x1 y1 b → r ≡ past (edge x0 y0 x1 y1) x y (Some sum)

-- ---- edges off the height

-- h is above y, or below it, as asked
unfoldable pub beyond : Bool → ℤ → ℤ → Bool
beyond above h y = cond above (lt_z y h) (lt_z h y)

-- the heights of the four vertices from the one at i on
unfoldable pub four_beyond : Bool → List ℤ → ℕ → ℤ → Bool
four_beyond above v i y =
    beyond above (get_or v (i + 1) (pos 0)) y && beyond above (get_or v (i + 3) (pos 0)) y
    && beyond above (get_or v (i + 5) (pos 0)) y && beyond above (get_or v (i + 7) (pos 0)) y

-- at whatever x, none of the edges to the vertices from the one at i to before the one at k changes what the walk holds
pub record Apart (v : List ℤ) (y : ℤ) (i k : ℕ) : Type 0 where
  pub from : i ≤ k
  pub to : k ≤ length v
  pub even : k % 2 ≡ 0
  pub same : (m : ℕ) → i / 2 ≤ m → m ≤ k / 2 → (x : ℤ) → walked v x y m ≡ walked v x y (i / 2)

-- ---- stretches of the walk, of which the next begins where one ends
pub record Stretch (n start end : ℕ) : Type 0 where
  pub start_even : start % 2 ≡ 0
  pub end_even : end % 2 ≡ 0
  pub from : start ≤ end
  pub to : end ≤ n
  pub onward : start < n → start < end
