-- A position says of a point what the tests of membership say, and whether it is on the outline.
use mathlib.Core.Path.{◌≡◌, refl, sym, ◌∙◌}
use mathlib.Core.Bool.{Bool, true, false, not, cond, ◌&&◌, ◌||◌}
use mathlib.Core.List.{List}
use lib.IntN.{ℤ, pos, ◌-ℤ◌, ◌*ℤ◌}
use lib.Signed.{le_z, lt_z, ◌<ℤ◌}
use Rattle.integers.specs.Equality.{eq_z}
use Rattle.integers.proofs.Order.{zarith}
use Rattle.integers.proofs.Equality.{eq_z-true, eq_z-false, true-eq_z, false-eq_z}
use Rattle.plans.specs.Symmetric.{Symmetric}
use Rattle.plans.proofs.IndexLaws.{clash}
use Rattle.wide.proofs.OrderLaws.{order_mul}
use Rattle.counter.specs.Polygon.{on_outline, winding, in_polygon}
use Rattle.wide.specs.Inner.Values.{order_of}
use Rattle.std.specs.declared.cmp.Ordering.TheVariants.{Less, Equal, Greater}
use Rattle.counter.specs.Ellipse.{form, determinant, in_ellipse}
use Rattle.counter.specs.DecimalEllipse.{decimal_left, decimal_right, in_decimal_ellipse, decimal_ellipse_position}
use Rattle.counter.specs.Ellipsoid.{ellipsoid_left, ellipsoid_right, in_ellipsoid, ellipsoid_position}
use Rattle.counter.specs.Positions.{not_outside, is_on_outline, polygon_position, by_sides, ellipse_position}
use Rattle.counter.specs.Inner.Steps.{position_by, without_outline}
use Rattle.counter.specs.declared.Position.{Position}
use Rattle.counter.specs.declared.Position.TheVariants.{Outside, Inside, OnOutline}

-- ---- polygon

module _ (v : List ℤ) (x y : ℤ) where
  -- not outside exactly where 01 has the point inside
  pub polygon_in_lem : not_outside (polygon_position v x y) ≡ in_polygon v x y
  unfolding polygon_position in_polygon
  polygon_in_lem = go (on_outline v x y) (eq_z (winding v x y) (pos 0))
    where
      go : (o z : Bool) → not_outside (cond o OnOutline (cond z Outside Inside)) ≡ (o || not z)
      go true z = refl
      go false true = refl
      go false false = refl

  -- on the outline exactly where some edge carries the point, whatever the sum says
  pub polygon_on_lem : is_on_outline (polygon_position v x y) ≡ on_outline v x y
  unfolding polygon_position
  polygon_on_lem = go (on_outline v x y) (eq_z (winding v x y) (pos 0))
    where
      go : (o z : Bool) → is_on_outline (cond o OnOutline (cond z Outside Inside)) ≡ o
      go true z = refl
      go false true = refl
      go false false = refl

-- ---- two sides of a rule

module _ (l r : ℤ) where
  pub sides_in : not_outside (by_sides l r) ≡ le_z l r
  sides_in = go (eq_z l r) (lt_z l r) (le_z l r) refl refl refl
    where
      go : (q h k : Bool) → eq_z l r ≡ q → lt_z l r ≡ h → le_z l r ≡ k → not_outside (cond q OnOutline (cond h Inside Outside)) ≡ k
      go true h true e f g = refl
      go true h false e f g = absurd (let z = eq_z-true l r e in let w : le_z l r ≡ true = omega zarith in clash (sym w ∙ g))
      go false true true e f g = refl
      go false true false e f g = absurd (let w : le_z l r ≡ true = omega zarith in clash (sym w ∙ g))
      go false false true e f g = absurd (eq_z-false l r e (omega zarith))
      go false false false e f g = refl

  -- by two comparisons
  less_differs : lt_z l r ≡ true → l ≡ r → ⊥
  less_differs h e = let f : lt_z l r ≡ false = omega zarith in clash (sym h ∙ f)

  more-differs : lt_z r l ≡ true → l ≡ r → ⊥
  more-differs h e = let f : lt_z r l ≡ false = omega zarith in clash (sym h ∙ f)

  pub sides_less : lt_z l r ≡ true → Inside ≡ by_sides l r
  sides_less h = rw (false-eq_z l r (less_differs h), h)

  pub sides_more : lt_z r l ≡ true → Outside ≡ by_sides l r
  sides_more h = let f : lt_z l r ≡ false = omega zarith in rw (false-eq_z l r (more-differs h), f)

  pub sides_equal : lt_z l r ≡ false → lt_z r l ≡ false → OnOutline ≡ by_sides l r
  sides_equal h k = let e : l ≡ r = omega zarith in rw (true-eq_z l r e)

  pub sides_on : is_on_outline (by_sides l r) ≡ eq_z l r
  sides_on = go (eq_z l r) (lt_z l r)
    where
      go : (q h : Bool) → is_on_outline (cond q OnOutline (cond h Inside Outside)) ≡ q
      go true h = refl
      go false true = refl
      go false false = refl

-- by their order
pub order_sides : (l r : ℤ) → position_by (order_of l r) ≡ by_sides l r
order_sides l r = go (lt_z l r) (lt_z r l) refl refl
  where
    go : (a b : Bool) → lt_z l r ≡ a → lt_z r l ≡ b → position_by (cond a Less (cond b Greater Equal)) ≡ by_sides l r
    go true b e f = sides_less l r e
    go false true e f = sides_more l r f
    go false false e f = sides_equal l r e f

-- a factor above 0 keeps the position
pub scaled_sides : (k l r : ℤ) → pos 0 <ℤ k → by_sides (k *ℤ l) (k *ℤ r) ≡ by_sides l r
scaled_sides k l r h = sym (order_sides (k *ℤ l) (k *ℤ r)) ∙ rw (order_mul k l r h) (order_sides l r)

-- ---- ellipse

module _ (m1 m2 c11 c12 c22 d2 x y : ℤ) where
  -- not outside exactly where 01 has the point inside
  pub ellipse_in_lem : not_outside (ellipse_position m1 m2 c11 c12 c22 d2 x y) ≡ in_ellipse m1 m2 c11 c12 c22 d2 x y
  unfolding ellipse_position in_ellipse
  ellipse_in_lem = sides_in (form c11 c12 c22 (x -ℤ m1) (y -ℤ m2)) (d2 *ℤ determinant c11 c12 c22)

  -- on the outline exactly where both sides of the rule are equal
  pub ellipse_on_lem : is_on_outline (ellipse_position m1 m2 c11 c12 c22 d2 x y) ≡ eq_z (form c11 c12 c22 (x -ℤ m1) (y -ℤ m2)) (d2 *ℤ determinant c11 c12 c22)
  unfolding ellipse_position
  ellipse_on_lem = sides_on (form c11 c12 c22 (x -ℤ m1) (y -ℤ m2)) (d2 *ℤ determinant c11 c12 c22)

  -- the same of an ellipse with decimals
  pub decimal_in : not_outside (decimal_ellipse_position m1 m2 c11 c12 c22 d2 x y) ≡ in_decimal_ellipse m1 m2 c11 c12 c22 d2 x y
  unfolding decimal_ellipse_position in_decimal_ellipse
  decimal_in = sides_in (decimal_left m1 m2 c11 c12 c22 x y) (decimal_right c11 c12 c22 d2)

  pub decimal_on : is_on_outline (decimal_ellipse_position m1 m2 c11 c12 c22 d2 x y) ≡ eq_z (decimal_left m1 m2 c11 c12 c22 x y) (decimal_right c11 c12 c22 d2)
  unfolding decimal_ellipse_position
  decimal_on = sides_on (decimal_left m1 m2 c11 c12 c22 x y) (decimal_right c11 c12 c22 d2)

-- ---- ellipsoid

module _ (m1 m2 m3 : ℤ) (c : Symmetric) (d2 x y z : ℤ) where
  pub ellipsoid_in_lem : not_outside (ellipsoid_position m1 m2 m3 c d2 x y z) ≡ in_ellipsoid m1 m2 m3 c d2 x y z
  unfolding ellipsoid_position in_ellipsoid
  ellipsoid_in_lem = sides_in (ellipsoid_left m1 m2 m3 c x y z) (ellipsoid_right c d2)

  pub ellipsoid_on_lem : is_on_outline (ellipsoid_position m1 m2 m3 c d2 x y z) ≡ eq_z (ellipsoid_left m1 m2 m3 c x y z) (ellipsoid_right c d2)
  unfolding ellipsoid_position
  ellipsoid_on_lem = sides_on (ellipsoid_left m1 m2 m3 c x y z) (ellipsoid_right c d2)

-- ---- on the outline is in the shape

pub on_is_in : (q : Position) → is_on_outline q ≡ (not_outside q && is_on_outline q)
on_is_in Outside = refl
on_is_in Inside = refl
on_is_in OnOutline = refl

-- ---- shapes without an outline

pub without-outline_tells : (b : Bool) → (not_outside (without_outline b) ≡ b) × (is_on_outline (without_outline b) ≡ false)
without-outline_tells true = (refl, refl)
without-outline_tells false = (refl, refl)
