-- The walk, computed: on a square, and on one with an edge that leads from its top to its middle and back.
use mathlib.Core.Path.{◌≡◌, refl}
use mathlib.Core.List.{List, [], ◌∷◌}
use Prim.Native.Nat.{ℕ}
use lib.IntN.{ℤ, pos, negsuc}
use Rattle.counter.specs.Polygon.{side, between, on_edge, turn, crossing, edges_from, edges, on_some, crossings}
use Rattle.counter.specs.Walk.{over, walked, found}
use Rattle.counter.specs.declared.Position.TheVariants.{Outside, Inside, OnOutline}
use Rattle.std.proofs.Common.{Option, None, Some}

abbrev corners : List ℤ
corners = pos 0 ∷ pos 0 ∷ pos 10 ∷ pos 0 ∷ pos 10 ∷ pos 10 ∷ pos 0 ∷ pos 10 ∷ []

abbrev square : ℕ → ℕ → ℕ → Option ℤ
square x y k = walked corners (pos x) (pos y) k

abbrev left : ℕ → Option ℤ
left k = walked corners (negsuc 0) (pos 5) k

abbrev spur : ℕ → ℕ → ℕ → Option ℤ
spur x y k =
    walked (pos 0 ∷ pos 0 ∷ pos 10 ∷ pos 0 ∷ pos 10 ∷ pos 10 ∷ pos 5 ∷ pos 10 ∷ pos 5 ∷ pos 5 ∷ pos 5 ∷ pos 10 ∷ pos 0 ∷ pos 10 ∷ []) (pos x) (pos y) k

-- the first edge leads from the last vertex to the first
pub walk_cases :
    (square 5 5 0 ≡ Some (pos 0))
    -- inside: the third edge, on the right, adds 1
    × (square 5 5 2 ≡ Some (pos 0))
    × (square 5 5 3 ≡ Some (pos 1))
    × (square 5 5 4 ≡ Some (pos 1))
    × (found (square 5 5 4) ≡ Inside)
    -- to the left of it: the first edge takes 1, and the third gives it back
    × (left 0 ≡ Some (pos 0))
    × (left 1 ≡ Some (negsuc 0))
    × (left 3 ≡ Some (pos 0))
    × (left 4 ≡ Some (pos 0))
    × (found (left 4) ≡ Outside)
    -- to the right of it: nothing is added
    × (square 11 5 4 ≡ Some (pos 0))
    × (found (square 11 5 4) ≡ Outside)
    -- on the third edge, and on the first: carried stays carried
    × (square 10 5 2 ≡ Some (pos 0))
    × (square 10 5 3 ≡ None)
    × (square 10 5 4 ≡ None)
    × (square 0 5 1 ≡ None)
    × (square 0 5 4 ≡ None)
    × (found (square 0 5 4) ≡ OnOutline)
    -- carried where 1 had been added
    × (spur 5 7 4 ≡ Some (pos 1))
    × (spur 5 7 5 ≡ None)
    × (spur 5 7 7 ≡ None)
    × (found (spur 5 7 7) ≡ OnOutline)
unfolding side between on_edge turn crossing edges_from edges on_some crossings over walked
walk_cases = (refl, refl, refl, refl, refl, refl, refl, refl, refl, refl, refl, refl, refl, refl, refl, refl, refl, refl, refl, refl, refl, refl)
