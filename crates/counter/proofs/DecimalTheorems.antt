-- Ellipses with decimals: their rule is 01's over the exact values, and over whole numbers it is 01's own.
use mathlib.Core.Path.{◌≡◌, ap₂, ◌∙◌}
use mathlib.Core.Bool.{◌&&◌}
use mathlib.Core.List.{[], ◌∷◌}
use lib.IntN.{ℤ, pos, ◌+ℤ◌, ◌-ℤ◌, ◌*ℤ◌}
use lib.Signed.{lt_z, lt_z_yes}
use Rattle.integers.specs.Inner.Expressions.{Ex, var, lit, ◌⊕◌, ◌⊖◌, ◌⊗◌}
use Rattle.integers.proofs.Solver.{solve}
use Rattle.integers.proofs.Products.{lt_z_mul}
use Rattle.plans.specs.Form.{matrix_good}
use Rattle.counter.specs.Ellipse.{form, determinant}
use Rattle.counter.specs.Positions.{by_sides, ellipse_position}
use Rattle.counter.specs.DecimalEllipse.{decimal_left, decimal_right, decimal_ellipse_position}
use Rattle.counter.specs.declared.Position.{Position}
use Rattle.counter.proofs.PositionLaws.{scaled_sides}

-- ---- exact decimal values, as fractions

-- a whole number over a number above 0: here 1, 1000, and their products
pub record Fraction : Type 0 where
  pub top : ℤ
  pub bottom : ℤ

abbrev pub whole : ℤ → Fraction
whole z = record { top = z; bottom = pos 1 }

-- the value that z thousandths are
abbrev pub in_thousandths : ℤ → Fraction
in_thousandths z = record { top = z; bottom = pos 1000 }

infixl 6 ◌+F◌ ◌-F◌
infixl 7 ◌*F◌
abbrev pub ◌+F◌ : Fraction → Fraction → Fraction
a +F b = record { top = a.top *ℤ b.bottom +ℤ b.top *ℤ a.bottom; bottom = a.bottom *ℤ b.bottom }

abbrev pub ◌-F◌ : Fraction → Fraction → Fraction
a -F b = record { top = a.top *ℤ b.bottom -ℤ b.top *ℤ a.bottom; bottom = a.bottom *ℤ b.bottom }

abbrev pub ◌*F◌ : Fraction → Fraction → Fraction
a *F b = record { top = a.top *ℤ b.top; bottom = a.bottom *ℤ b.bottom }

-- 01's two sides over fractions, as `form` and `determinant` have them over whole numbers
abbrev pub form_f : Fraction → Fraction → Fraction → Fraction → Fraction → Fraction
form_f c11 c12 c22 dx dy = c22 *F (dx *F dx) -F whole (pos 2) *F (c12 *F (dx *F dy)) +F c11 *F (dy *F dy)

abbrev pub determinant_f : Fraction → Fraction → Fraction → Fraction
determinant_f c11 c12 c22 = c11 *F c22 -F c12 *F c12

-- how two fractions compare: as their tops do over the same bottom
abbrev pub by_sides_f : Fraction → Fraction → Position
by_sides_f a b = by_sides (a.top *ℤ b.bottom) (b.top *ℤ a.bottom)

abbrev pub position_f : ℤ → ℤ → Fraction → Fraction → Fraction → Fraction → ℤ → ℤ → Position
position_f m1 m2 c11 c12 c22 d2 x y = by_sides_f (form_f c11 c12 c22 (whole (x -ℤ m1)) (whole (y -ℤ m2))) (d2 *F determinant_f c11 c12 c22)

-- ---- the rule

module _ (m1 m2 c11 c12 c22 d2 x y : ℤ) where
  -- the left side of 01's rule: its form over the variables c11, c12, c22, dx, dy
  abbrev form_e : Ex
  form_e = var 2 ⊗ (var 3 ⊗ var 3) ⊖ lit 2 ⊗ (var 1 ⊗ (var 3 ⊗ var 4)) ⊕ var 0 ⊗ (var 4 ⊗ var 4)

  -- the rule in thousandths is 01's rule over the exact decimal values: both sides are multiplied by the same number above 0
  pub decimal-exact : position_f m1 m2 (in_thousandths c11) (in_thousandths c12) (in_thousandths c22) (in_thousandths d2) x y
      ≡ decimal_ellipse_position m1 m2 c11 c12 c22 d2 x y
  unfolding decimal_ellipse_position
  decimal-exact =
      let dx = x -ℤ m1 in
      let dy = y -ℤ m2 in
      let f = form_f (in_thousandths c11) (in_thousandths c12) (in_thousandths c22) (whole dx) (whole dy) in
      let d = in_thousandths d2 *F determinant_f (in_thousandths c11) (in_thousandths c12) (in_thousandths c22) in
      let l : f.top *ℤ d.bottom ≡ pos 1000000000000000 *ℤ decimal_left m1 m2 c11 c12 c22 x y =
      solve (c11 ∷ c12 ∷ c22 ∷ dx ∷ dy ∷ [])
      (((var 2 ⊗ (var 3 ⊗ var 3) ⊗ lit 1000 ⊖ lit 2 ⊗ (var 1 ⊗ (var 3 ⊗ var 4)) ⊗ lit 1000) ⊗ lit 1000 ⊕ var 0 ⊗ (var 4 ⊗ var 4) ⊗ lit 1000000)
      ⊗ lit 1000000000000000)
      (lit 1000000000000000 ⊗ (lit 1000000 ⊗ form_e))
      tt in
      let r : d.top *ℤ f.bottom ≡ pos 1000000000000000 *ℤ decimal_right c11 c12 c22 d2 =
      solve (c11 ∷ c12 ∷ c22 ∷ d2 ∷ [])
      (var 3 ⊗ (var 0 ⊗ var 2 ⊗ lit 1000000 ⊖ var 1 ⊗ var 1 ⊗ lit 1000000) ⊗ lit 1000000000)
      (lit 1000000000000000 ⊗ (var 3 ⊗ (var 0 ⊗ var 2 ⊖ var 1 ⊗ var 1)))
      tt in
      ap₂ by_sides l r ∙ scaled_sides (pos 1000000000000000) (decimal_left m1 m2 c11 c12 c22 x y) (decimal_right c11 c12 c22 d2) (lt_z_yes tt)

  -- where all four are whole it is 01's rule of the whole numbers
  pub decimal-whole : decimal_ellipse_position m1 m2 (pos 1000 *ℤ c11) (pos 1000 *ℤ c12) (pos 1000 *ℤ c22) (pos 1000 *ℤ d2) x y
      ≡ ellipse_position m1 m2 c11 c12 c22 d2 x y
  unfolding decimal_ellipse_position ellipse_position
  decimal-whole =
      let dx = x -ℤ m1 in
      let dy = y -ℤ m2 in
      let l : decimal_left m1 m2 (pos 1000 *ℤ c11) (pos 1000 *ℤ c12) (pos 1000 *ℤ c22) x y ≡ pos 1000000000 *ℤ form c11 c12 c22 dx dy =
      solve (c11 ∷ c12 ∷ c22 ∷ dx ∷ dy ∷ [])
      (lit 1000000 ⊗ ((lit 1000 ⊗ var 2) ⊗ (var 3 ⊗ var 3) ⊖ lit 2 ⊗ ((lit 1000 ⊗ var 1) ⊗ (var 3 ⊗ var 4)) ⊕ (lit 1000 ⊗ var 0) ⊗ (var 4 ⊗ var 4)))
      (lit 1000000000 ⊗ form_e)
      tt in
      let r : decimal_right (pos 1000 *ℤ c11) (pos 1000 *ℤ c12) (pos 1000 *ℤ c22) (pos 1000 *ℤ d2) ≡ pos 1000000000 *ℤ (d2 *ℤ determinant c11 c12 c22) =
      solve (c11 ∷ c12 ∷ c22 ∷ d2 ∷ [])
      ((lit 1000 ⊗ var 3) ⊗ ((lit 1000 ⊗ var 0) ⊗ (lit 1000 ⊗ var 2) ⊖ (lit 1000 ⊗ var 1) ⊗ (lit 1000 ⊗ var 1)))
      (lit 1000000000 ⊗ (var 3 ⊗ (var 0 ⊗ var 2 ⊖ var 1 ⊗ var 1)))
      tt in
      ap₂ by_sides l r ∙ scaled_sides (pos 1000000000) (form c11 c12 c22 dx dy) (d2 *ℤ determinant c11 c12 c22) (lt_z_yes tt)

-- a matrix multiplied by 1000, as in thousandths, is judged as it was
module _ (c11 c12 c22 : ℤ) where
  pub matrix-whole : matrix_good (pos 1000 *ℤ c11) (pos 1000 *ℤ c12) (pos 1000 *ℤ c22) ≡ matrix_good c11 c12 c22
  unfolding matrix_good
  matrix-whole =
      let l : pos 1000 *ℤ c12 *ℤ (pos 1000 *ℤ c12) ≡ pos 1000000 *ℤ (c12 *ℤ c12) =
      solve (c12 ∷ []) ((lit 1000 ⊗ var 0) ⊗ (lit 1000 ⊗ var 0)) (lit 1000000 ⊗ (var 0 ⊗ var 0)) tt in
      let r : pos 1000 *ℤ c11 *ℤ (pos 1000 *ℤ c22) ≡ pos 1000000 *ℤ (c11 *ℤ c22) =
      solve (c11 ∷ c22 ∷ []) ((lit 1000 ⊗ var 0) ⊗ (lit 1000 ⊗ var 1)) (lit 1000000 ⊗ (var 0 ⊗ var 1)) tt in
      ap₂ ◌&&◌ (lt_z_mul (pos 1000) (pos 0) c11 (lt_z_yes tt)) (ap₂ lt_z l r ∙ lt_z_mul (pos 1000000) (c12 *ℤ c12) (c11 *ℤ c22) (lt_z_yes tt))
