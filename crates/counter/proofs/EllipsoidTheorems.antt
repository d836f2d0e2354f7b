-- The rule of an ellipsoid is 000's times the determinant; and where nothing ties the third measurement to the other two, an event at the third mean is
-- where the ellipse of these two has it.
use mathlib.Core.Path.{◌≡◌, refl, sym, ap, ap₂, ◌∙◌}
use mathlib.Core.Bool.{Bool, true}
use mathlib.Core.List.{[], ◌∷◌}
use lib.Dec.{T}
use lib.IntN.{ℤ, pos, ◌+ℤ◌, ◌-ℤ◌, ◌*ℤ◌}
use lib.Signed.{lt_z, ◌<ℤ◌, lt_z_yes}
use Rattle.integers.specs.Inner.Expressions.{Ex, var, lit, ◌⊕◌, ◌⊖◌, ◌⊗◌}
use Rattle.integers.proofs.Order.{sub_lt_z}
use Rattle.integers.proofs.Products.{lt_z_mul}
use Rattle.integers.proofs.Solver.{solve}
use Rattle.plans.specs.Symmetric.{Symmetric, symmetric, adjugate, determinant3}
use Rattle.plans.specs.Form.{matrix_good, matrix3_good}
use Rattle.plans.proofs.AdjugateTheorems.{a11, a12, a13, a22, a23, a33, det}
use Rattle.plans.proofs.IndexLaws.{and_both}
use Rattle.counter.specs.Ellipse.{form, determinant, in_ellipse}
use Rattle.counter.specs.Positions.{not_outside, by_sides, ellipse_position}
use Rattle.counter.specs.Ellipsoid.{form3, ellipsoid_left, ellipsoid_right, in_ellipsoid, ellipsoid_position}
use Rattle.counter.proofs.PositionLaws.{scaled_sides, ellipse_in_lem, ellipsoid_in_lem}

-- ---- 000's rule, dᵀ·C⁻¹·d ≤ D²

-- w is what C takes to n times (x, y, z): n times C⁻¹ of it
pub record Solves (c : Symmetric) (n x y z w1 w2 w3 : ℤ) : Type 0 where
  pub row1 : c.c11 *ℤ w1 +ℤ c.c12 *ℤ w2 +ℤ c.c13 *ℤ w3 ≡ n *ℤ x
  pub row2 : c.c12 *ℤ w1 +ℤ c.c22 *ℤ w2 +ℤ c.c23 *ℤ w3 ≡ n *ℤ y
  pub row3 : c.c13 *ℤ w1 +ℤ c.c23 *ℤ w2 +ℤ c.c33 *ℤ w3 ≡ n *ℤ z

-- the left side of the rule is dᵀ·w, where w is the determinant times C⁻¹·d
module _ (c : Symmetric) (x y z : ℤ) where
  abbrev w1 : ℤ
  w1 = (adjugate c).c11 *ℤ x +ℤ (adjugate c).c12 *ℤ y +ℤ (adjugate c).c13 *ℤ z

  abbrev w2 : ℤ
  w2 = (adjugate c).c12 *ℤ x +ℤ (adjugate c).c22 *ℤ y +ℤ (adjugate c).c23 *ℤ z

  abbrev w3 : ℤ
  w3 = (adjugate c).c13 *ℤ x +ℤ (adjugate c).c23 *ℤ y +ℤ (adjugate c).c33 *ℤ z

  pub left_is : form3 (adjugate c) x y z ≡ x *ℤ w1 +ℤ y *ℤ w2 +ℤ z *ℤ w3
  left_is = refl

  abbrev row : Ex → Ex → Ex → Ex
  row p q r =
      p ⊗ (a11 ⊗ var 6 ⊕ a12 ⊗ var 7 ⊕ a13 ⊗ var 8) ⊕ q ⊗ (a12 ⊗ var 6 ⊕ a22 ⊗ var 7 ⊕ a23 ⊗ var 8) ⊕ r ⊗ (a13 ⊗ var 6 ⊕ a23 ⊗ var 7 ⊕ a33 ⊗ var 8)

  pub left_solves : Solves c (determinant3 c) x y z w1 w2 w3
  left_solves =
      let ρ = c.c11 ∷ c.c12 ∷ c.c13 ∷ c.c22 ∷ c.c23 ∷ c.c33 ∷ x ∷ y ∷ z ∷ [] in
      record {
        row1 = solve ρ (row (var 0) (var 1) (var 2)) (det ⊗ var 6) tt;
        row2 = solve ρ (row (var 1) (var 3) (var 4)) (det ⊗ var 7) tt;
        row3 = solve ρ (row (var 2) (var 4) (var 5)) (det ⊗ var 8) tt;
      }

-- ---- ellipses

module _ (c11 c12 c22 c33 : ℤ) where
  -- c13 = c23 = 0
  abbrev pub untied : Symmetric
  untied = symmetric c11 c12 (pos 0) c22 (pos 0) c33

  -- the whole determinant is that of the upper left matrix, c33 times
  untied-determinant : determinant3 untied ≡ determinant c11 c12 c22 *ℤ c33
  untied-determinant =
      solve (c11 ∷ c12 ∷ c22 ∷ c33 ∷ [])
      (var 0 ⊗ (var 2 ⊗ var 3 ⊖ lit 0 ⊗ lit 0) ⊕ var 1 ⊗ (lit 0 ⊗ lit 0 ⊖ var 1 ⊗ var 3) ⊕ lit 0 ⊗ (var 1 ⊗ lit 0 ⊖ lit 0 ⊗ var 2))
      ((var 0 ⊗ var 2 ⊖ var 1 ⊗ var 1) ⊗ var 3)
      tt

  from-true : {b : Bool} → b ≡ true → T b
  from-true e = rw e tt

  -- where it is good, c33 is above 0 too
  third_above : matrix3_good untied ≡ true → pos 0 <ℤ c33
  unfolding matrix3_good matrix_good
  third_above good =
      let both = and_both (matrix_good c11 c12 c22) _ good in
      let corner : pos 0 <ℤ determinant c11 c12 c22 =
      lt_z_yes (from-true (sub_lt_z (c11 *ℤ c22) (c12 *ℤ c12) ∙ (and_both (lt_z (pos 0) c11) _ both.0).1)) in
      let zero : determinant c11 c12 c22 *ℤ pos 0 ≡ pos 0 = solve (determinant c11 c12 c22 ∷ []) (var 0 ⊗ lit 0) (lit 0) tt in
      let whole : lt_z (determinant c11 c12 c22 *ℤ pos 0) (determinant c11 c12 c22 *ℤ c33) ≡ true = rw (zero, ← untied-determinant) both.1 in
      lt_z_yes (from-true (sym (lt_z_mul (determinant c11 c12 c22) (pos 0) c33 corner) ∙ whole))

  module _ (m1 m2 m3 d2 x y : ℤ) (good : matrix3_good untied ≡ true) where
    pub untied-position : ellipsoid_position m1 m2 m3 untied d2 x y m3 ≡ ellipse_position m1 m2 c11 c12 c22 d2 x y
    unfolding ellipsoid_position ellipse_position
    untied-position =
        let dx = x -ℤ m1 in
        let dy = y -ℤ m2 in
        let l : ellipsoid_left m1 m2 m3 untied x y m3 ≡ c33 *ℤ form c11 c12 c22 dx dy =
        solve (c11 ∷ c12 ∷ c22 ∷ c33 ∷ dx ∷ dy ∷ m3 ∷ [])
        (
        var 4 ⊗ ((var 2 ⊗ var 3 ⊖ lit 0 ⊗ lit 0) ⊗ var 4 ⊕ (lit 0 ⊗ lit 0 ⊖ var 1 ⊗ var 3) ⊗ var 5 ⊕ (var 1 ⊗ lit 0 ⊖ lit 0 ⊗ var 2) ⊗ (var 6 ⊖ var 6))
        ⊕ var 5 ⊗ ((lit 0 ⊗ lit 0 ⊖ var 1 ⊗ var 3) ⊗ var 4 ⊕ (var 0 ⊗ var 3 ⊖ lit 0 ⊗ lit 0) ⊗ var 5 ⊕ (var 1 ⊗ lit 0 ⊖ var 0 ⊗ lit 0) ⊗ (var 6 ⊖ var 6))
        ⊕ (var 6 ⊖ var 6)
        ⊗ ((var 1 ⊗ lit 0 ⊖ lit 0 ⊗ var 2) ⊗ var 4 ⊕ (var 1 ⊗ lit 0 ⊖ var 0 ⊗ lit 0) ⊗ var 5 ⊕ (var 0 ⊗ var 2 ⊖ var 1 ⊗ var 1) ⊗ (var 6 ⊖ var 6))
        )
        (var 3 ⊗ (var 2 ⊗ (var 4 ⊗ var 4) ⊖ lit 2 ⊗ (var 1 ⊗ (var 4 ⊗ var 5)) ⊕ var 0 ⊗ (var 5 ⊗ var 5)))
        tt in
        let r : ellipsoid_right untied d2 ≡ c33 *ℤ (d2 *ℤ determinant c11 c12 c22) =
        ap (λ (z : ℤ). d2 *ℤ z) untied-determinant
        ∙ solve (d2 ∷ determinant c11 c12 c22 ∷ c33 ∷ []) (var 0 ⊗ (var 1 ⊗ var 2)) (var 2 ⊗ (var 0 ⊗ var 1)) tt in
        ap₂ by_sides l r ∙ scaled_sides c33 (form c11 c12 c22 dx dy) (d2 *ℤ determinant c11 c12 c22) (third_above good)

    pub untied_in : in_ellipsoid m1 m2 m3 untied d2 x y m3 ≡ in_ellipse m1 m2 c11 c12 c22 d2 x y
    untied_in = sym (ellipsoid_in_lem m1 m2 m3 untied d2 x y m3) ∙ ap not_outside untied-position ∙ ellipse_in_lem m1 m2 c11 c12 c22 d2 x y
