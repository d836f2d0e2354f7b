-- Cases worked by hand: outlines redrawn, their winding sums for points inside, outside and on an edge, and a plan with its polygon redrawn.
use mathlib.Core.Path.{◌≡◌, refl}
use mathlib.Core.Bool.{true, false}
use mathlib.Core.List.{List, [], ◌∷◌, ◌++◌}
use lib.IntN.{ℤ, pos, negsuc}
use Rattle.plans.specs.Words.{word, number, part}
use Rattle.plans.specs.Form.{length_at, body_at, next_at, steps_end}
use Rattle.counter.specs.Polygon.{side, between, on_edge, turn, crossing, edges_from, edges, on_some, crossings, on_outline, winding}
use Rattle.counter.specs.Positions.{polygon_position}
use Rattle.counter.specs.declared.Position.TheVariants.{Outside, Inside, OnOutline}
use Rattle.redrawn.specs.Redrawing.{from_vertex, backwards, redrawn}
use Rattle.redrawn.specs.Plans.{redrawn_body, place_of, redrawn_at, redrawn_plan}

-- 01's square, and one that is walked twice
abbrev square : List ℤ
square = pos 0 ∷ pos 0 ∷ pos 10 ∷ pos 0 ∷ pos 10 ∷ pos 10 ∷ pos 0 ∷ pos 10 ∷ []

abbrev twice : List ℤ
twice = pos 0 ∷ pos 0 ∷ pos 10 ∷ pos 0 ∷ pos 10 ∷ pos 10 ∷ pos 0 ∷ pos 10 ∷ pos 0 ∷ pos 0 ∷ pos 10 ∷ pos 0 ∷ pos 10 ∷ pos 10 ∷ pos 0 ∷ pos 10 ∷ []

-- ---- the vertices

from_second : from_vertex 1 square ≡ pos 10 ∷ pos 0 ∷ pos 10 ∷ pos 10 ∷ pos 0 ∷ pos 10 ∷ pos 0 ∷ pos 0 ∷ []
unfolding from_vertex
from_second = refl

past_the_end : from_vertex 9 square ≡ square
unfolding from_vertex
past_the_end = refl

the_other_way : backwards square ≡ pos 0 ∷ pos 10 ∷ pos 10 ∷ pos 10 ∷ pos 10 ∷ pos 0 ∷ pos 0 ∷ pos 0 ∷ []
unfolding backwards
the_other_way = refl

both : redrawn 1 true square ≡ pos 0 ∷ pos 0 ∷ pos 0 ∷ pos 10 ∷ pos 10 ∷ pos 10 ∷ pos 10 ∷ pos 0 ∷ []
unfolding from_vertex backwards redrawn
both = refl

-- ---- the sum

inside-sums : (winding square (pos 5) (pos 5) ≡ pos 1) × (winding (from_vertex 2 square) (pos 5) (pos 5) ≡ pos 1)
    × (winding (backwards square) (pos 5) (pos 5) ≡ negsuc 0) × (winding (redrawn 3 true square) (pos 5) (pos 5) ≡ negsuc 0)
unfolding from_vertex backwards redrawn side turn crossing edges_from edges crossings
inside-sums = (refl, refl, refl, refl)

twice-sums : (winding twice (pos 5) (pos 5) ≡ pos 2) × (winding (redrawn 5 true twice) (pos 5) (pos 5) ≡ negsuc 1)
unfolding from_vertex backwards redrawn side turn crossing edges_from edges crossings
twice-sums = (refl, refl)

-- on the left edge the sum is 1 and turns with the direction; on the right edge it is 0 both ways
edge-sums : (winding square (pos 0) (pos 5) ≡ pos 1) × (winding (backwards square) (pos 0) (pos 5) ≡ negsuc 0)
    × (winding square (pos 10) (pos 5) ≡ pos 0) × (winding (backwards square) (pos 10) (pos 5) ≡ pos 0)
unfolding backwards side turn crossing edges_from edges crossings
edge-sums = (refl, refl, refl, refl)

positions : (polygon_position (redrawn 3 true square) (pos 5) (pos 5) ≡ Inside) × (polygon_position (redrawn 3 true square) (pos 10) (pos 5) ≡ OnOutline)
    × (polygon_position (redrawn 3 true square) (pos 11) (pos 5) ≡ Outside)
unfolding from_vertex backwards redrawn side between on_edge turn crossing edges_from edges on_some crossings polygon_position
positions = (refl, refl, refl)

-- ---- half a vertex over: there the laws fail, so they ask for whole ones
whole_needed : (on_outline (pos 0 ∷ pos 0 ∷ pos 5 ∷ []) (pos 0) (pos 3) ≡ true)
    × (on_outline (from_vertex 1 (pos 0 ∷ pos 0 ∷ pos 5 ∷ [])) (pos 0) (pos 3) ≡ false)
unfolding from_vertex side between on_edge edges_from edges on_some
whole_needed = (refl, refl)

-- ---- a plan of a box, a square and a `not`: the square, step 1, in several ways
abbrev plan : List ℤ
plan =
    pos 2 ∷ pos 3 ∷ pos 1 ∷ pos 0 ∷ negsuc 0 ∷ pos 3 ∷ pos 0 ∷ pos 0 ∷ pos 9 ∷ pos 2 ∷ pos 1 ∷ pos 0 ∷ pos 10 ∷ pos 1 ∷ pos 0
    ∷ pos 1 ∷ pos 2 ∷ pos 3 ∷ pos 4 ∷ pos 5 ∷ pos 6 ∷ pos 7 ∷ pos 8 ∷ pos 6 ∷ pos 2 ∷ negsuc 0 ∷ pos 1 ∷ pos 2 ∷ []

-- the words before the vertices and those after them stay
abbrev plan_with : List ℤ → List ℤ
plan_with v =
    pos 2 ∷ pos 3 ∷ pos 1 ∷ pos 0 ∷ negsuc 0 ∷ pos 3 ∷ pos 0 ∷ pos 0 ∷ pos 9 ∷ pos 2 ∷ pos 1 ∷ pos 0 ∷ pos 10 ∷ pos 1 ∷ pos 0
    ∷ (v ++ (pos 6 ∷ pos 2 ∷ negsuc 0 ∷ pos 1 ∷ pos 2 ∷ []))

one_polygon : (redrawn_plan 0 false plan 1 ≡ plan)
    × (redrawn_plan 1 true plan 1 ≡ plan_with (pos 1 ∷ pos 2 ∷ pos 7 ∷ pos 8 ∷ pos 5 ∷ pos 6 ∷ pos 3 ∷ pos 4 ∷ []))
    × (redrawn_plan 3 false plan 1 ≡ plan_with (pos 7 ∷ pos 8 ∷ pos 1 ∷ pos 2 ∷ pos 3 ∷ pos 4 ∷ pos 5 ∷ pos 6 ∷ []))
    × (redrawn_plan 2 true plan 1 ≡ plan_with (pos 3 ∷ pos 4 ∷ pos 1 ∷ pos 2 ∷ pos 7 ∷ pos 8 ∷ pos 5 ∷ pos 6 ∷ []))
unfolding word number part length_at body_at next_at steps_end from_vertex backwards redrawn redrawn_body place_of redrawn_at redrawn_plan
one_polygon = (refl, refl, refl, refl)
