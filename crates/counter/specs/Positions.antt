-- Whether a point is outside, inside or on the outline of a polygon or an ellipse.
use Rattle.std.specs.Prelude.{Bool, true, false, cond, List, ℤ, pos, ◌-ℤ◌, ◌*ℤ◌}
use Rattle.std.specs.Int.Signed.{lt_z}
use Rattle.integers.specs.Equality.{eq_z}
use Rattle.counter.specs.Polygon.{on_outline, winding}
use Rattle.counter.specs.Ellipse.{form, determinant}
use Rattle.counter.specs.declared.Position.{Position}
use Rattle.counter.specs.declared.Position.TheVariants.{Outside, Inside, OnOutline}

-- ---- what each answer says

-- in the shape: not outside
abbrev pub not_outside : Position → Bool
not_outside Outside = false
not_outside Inside = true
not_outside OnOutline = true

abbrev pub is_on_outline : Position → Bool
is_on_outline Outside = false
is_on_outline Inside = false
is_on_outline OnOutline = true

-- ---- the two tests

-- polygon: on some edge, whatever the sum says; else the sum decides
unfoldable pub polygon_position : List ℤ → ℤ → ℤ → Position
polygon_position v x y = cond (on_outline v x y) OnOutline (cond (eq_z (winding v x y) (pos 0)) Outside Inside)

-- ellipse: "on: both sides of its rule are equal"
abbrev pub by_sides : ℤ → ℤ → Position
by_sides left right = cond (eq_z left right) OnOutline (cond (lt_z left right) Inside Outside)

unfoldable pub ellipse_position : ℤ → ℤ → ℤ → ℤ → ℤ → ℤ → ℤ → ℤ → Position
ellipse_position m1 m2 c11 c12 c22 d2 x y = by_sides (form c11 c12 c22 (x -ℤ m1) (y -ℤ m2)) (d2 *ℤ determinant c11 c12 c22)
