-- Ellipses with decimals (02: "The rule is that of 01 over the exact decimal values"): the matrix and D² stand in thousandths.
use Rattle.std.specs.Prelude.{Bool, ℤ, pos, ◌-ℤ◌, ◌*ℤ◌}
use Rattle.std.specs.Int.Signed.{le_z}
use Rattle.counter.specs.Ellipse.{form, determinant}
use Rattle.counter.specs.Positions.{by_sides}
use Rattle.counter.specs.declared.Position.{Position}

-- 01's two sides, both multiplied by 1000³: the form of thousandths is 1000 times that of the values, D² times the determinant is 1000³ times as much
abbrev pub decimal_left : ℤ → ℤ → ℤ → ℤ → ℤ → ℤ → ℤ → ℤ
decimal_left m1 m2 c11 c12 c22 x y = pos 1000000 *ℤ form c11 c12 c22 (x -ℤ m1) (y -ℤ m2)

abbrev pub decimal_right : ℤ → ℤ → ℤ → ℤ → ℤ
decimal_right c11 c12 c22 d2 = d2 *ℤ determinant c11 c12 c22

-- the rim is inside
unfoldable pub in_decimal_ellipse : ℤ → ℤ → ℤ → ℤ → ℤ → ℤ → ℤ → ℤ → Bool
in_decimal_ellipse m1 m2 c11 c12 c22 d2 x y = le_z (decimal_left m1 m2 c11 c12 c22 x y) (decimal_right c11 c12 c22 d2)

-- on: both sides are equal
unfoldable pub decimal_ellipse_position : ℤ → ℤ → ℤ → ℤ → ℤ → ℤ → ℤ → ℤ → Position
decimal_ellipse_position m1 m2 c11 c12 c22 d2 x y = by_sides (decimal_left m1 m2 c11 c12 c22 x y) (decimal_right c11 c12 c22 d2)
