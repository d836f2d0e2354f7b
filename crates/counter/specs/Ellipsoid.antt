-- When a point is in an ellipsoid over three measurements (02: "The rule is 000's, multiplied by the determinant"). 000 has dᵀ·C⁻¹·d ≤ D², where d is
-- the point less the means and C the matrix; multiplied by the determinant of C, its inverse is its adjugate.
use Rattle.std.specs.Prelude.{Bool, ℤ, ◌+ℤ◌, ◌-ℤ◌, ◌*ℤ◌}
use Rattle.std.specs.Int.Signed.{le_z}
use Rattle.plans.specs.Symmetric.{Symmetric, adjugate, determinant3}
use Rattle.counter.specs.Positions.{by_sides}
use Rattle.counter.specs.declared.Position.{Position}

-- dᵀ·A·d
abbrev pub form3 : Symmetric → ℤ → ℤ → ℤ → ℤ
form3 a dx dy dz =
    dx *ℤ (a.c11 *ℤ dx +ℤ a.c12 *ℤ dy +ℤ a.c13 *ℤ dz)
    +ℤ dy *ℤ (a.c12 *ℤ dx +ℤ a.c22 *ℤ dy +ℤ a.c23 *ℤ dz)
    +ℤ dz *ℤ (a.c13 *ℤ dx +ℤ a.c23 *ℤ dy +ℤ a.c33 *ℤ dz)

-- the rule's two sides: the form of the adjugate, and D² times the determinant
abbrev pub ellipsoid_left : ℤ → ℤ → ℤ → Symmetric → ℤ → ℤ → ℤ → ℤ
ellipsoid_left m1 m2 m3 c x y z = form3 (adjugate c) (x -ℤ m1) (y -ℤ m2) (z -ℤ m3)

abbrev pub ellipsoid_right : Symmetric → ℤ → ℤ
ellipsoid_right c d2 = d2 *ℤ determinant3 c

-- the outline is inside
unfoldable pub in_ellipsoid : ℤ → ℤ → ℤ → Symmetric → ℤ → ℤ → ℤ → ℤ → Bool
in_ellipsoid m1 m2 m3 c d2 x y z = le_z (ellipsoid_left m1 m2 m3 c x y z) (ellipsoid_right c d2)

-- on: both sides are equal
unfoldable pub ellipsoid_position : ℤ → ℤ → ℤ → Symmetric → ℤ → ℤ → ℤ → ℤ → Position
ellipsoid_position m1 m2 m3 c d2 x y z = by_sides (ellipsoid_left m1 m2 m3 c x y z) (ellipsoid_right c d2)
