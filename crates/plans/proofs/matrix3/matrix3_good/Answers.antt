-- `matrix3_good`: the sign of the determinant, which no entries make wrap.
use mathlib.Core.Path.{◌≡◌, sym, ◌∙◌, ap}
use mathlib.Core.Bool.{Bool, ◌&&◌}
use mathlib.Core.List.{List, [], ◌∷◌}
use Prim.Native.Nat.{ℕ}
use lib.IntN.{ℤ, pos, ◌*ℤ◌}
use lib.Signed.{lt_z}
use mir.Syntax.{w32}
use mir.Facts.{to_z-of_z}
use Rattle.integers.specs.Inner.Expressions.{var}
use Rattle.integers.proofs.Bounds.{in_fit, wider, ok64}
use Rattle.integers.proofs.Fitting.{Within}
use Rattle.wide.specs.Inner.Sums.{Sum, ◌⊠◌, ◌⊞◌}
use Rattle.wide.proofs.SumLaws.{sum-exact, plus-is}
use Rattle.plans.specs.Symmetric.{symmetric, determinant3}
use Rattle.plans.specs.Form.{matrix_good, matrix3_good}
use Rattle.plans.proofs.AdjugateTheorems.{a11, a12, a13}
use Rattle.plans.proofs.matrix3.matrix3_good.Goals as goal
use Rattle.plans.proofs.matrix3.matrix3_good.Goals.{After-matrix_good, Start}

-- any entries of 32 bits, and the determinant as the calls make it
abbrev entries : (c : Start) → List ℤ
entries c = let a = c.args in a.c11 ∷ a.c12 ∷ a.c13 ∷ a.c22 ∷ a.c23 ∷ a.c33 ∷ []

abbrev bounds : List ℕ
bounds = 2147483648 ∷ 2147483648 ∷ 2147483648 ∷ 2147483648 ∷ 2147483648 ∷ 2147483648 ∷ []

known : (c : Start) → Within bounds (entries c)
known c =
    let f = c.ranges in
    (in_fit w32 f.c11, (in_fit w32 f.c12, (in_fit w32 f.c13, (in_fit w32 f.c22, (in_fit w32 f.c23, (in_fit w32 f.c33, tt))))))

abbrev D : Sum
D = var 0 ⊠ a11 ⊞ var 1 ⊠ a12 ⊞ var 2 ⊠ a13

-- both tests, the first with an answer
abbrev test : Start → Bool → Bool
test c t = let a = c.args in t && lt_z (pos 0) (determinant3 (symmetric a.c11 a.c12 a.c13 a.c22 a.c23 a.c33))

corner : (c : After-matrix_good) → let a = c.args in c.matrix_good.result ≡ matrix_good a.c11 a.c12 a.c22
corner c = let f = c.ranges in simp (to_z-of_z, f.c11, f.c12, f.c22) at c.matrix_good.ensures

pub returns-then-matrix_good : goal.returns-then-matrix_good
unfolding matrix3_good
returns-then-matrix_good c =
    let entry = (goal.at.returns-then-matrix_good c).Start in
    let f = c.ranges in
    let m1 = simp (to_z-of_z, f.c22, f.c23, f.c33) at c.minor.ensures in
    let m2 = simp (to_z-of_z, f.c13, f.c12, f.c33, f.c23) at c.minor-then-matrix_good.ensures in
    let m3 = simp (to_z-of_z, f.c12, f.c13, f.c22, f.c23) at c.minor-then-matrix_good-2.ensures in
    let kept1 = ok64 c.minor.result c.minor.type_inv in
    let w1 = (simp (to_z-of_z, f.c11, wider f.c11, kept1) at c.times-w1.ensures) ∙ ap (λ (z : ℤ). c.args.c11 *ℤ z) m1 in
    let kept2 = ok64 c.minor-then-matrix_good.result c.minor-then-matrix_good.type_inv in
    let w2 = (simp (to_z-of_z, f.c12, wider f.c12, kept2) at c.times-w2.ensures) ∙ ap (λ (z : ℤ). c.args.c12 *ℤ z) m2 in
    let kept3 = ok64 c.minor-then-matrix_good-2.result c.minor-then-matrix_good-2.type_inv in
    let w3 = (simp (to_z-of_z, f.c13, wider f.c13, kept3) at c.times-w3.ensures) ∙ ap (λ (z : ℤ). c.args.c13 *ℤ z) m3 in
    let d =
    plus-is c.plus-then-matrix_good.ensures (plus-is c.plus.ensures w1 w2) w3
    ∙ sum-exact bounds (entries entry) (known entry) D tt in
    c.is_positive.ensures ∙ ap (lt_z (pos 0)) d
    ∙ sym (ap (test entry) (sym (corner (goal.at.returns-then-matrix_good c).After-matrix_good) ∙ c.if-matrix_good.true))

pub returns : goal.returns
unfolding matrix3_good
returns c = sym (ap (test (goal.at.returns c).Start) (sym (corner (goal.at.returns c).After-matrix_good) ∙ c.if-matrix_good.false))

pub overflow_cast-c11 : goal.overflow_cast-c11
overflow_cast-c11 c = simp (to_z-of_z, c.ranges.c11) (wider c.ranges.c11)

pub overflow_cast-c12 : goal.overflow_cast-c12
overflow_cast-c12 c = simp (to_z-of_z, c.ranges.c12) (wider c.ranges.c12)

pub overflow_cast-c13 : goal.overflow_cast-c13
overflow_cast-c13 c = simp (to_z-of_z, c.ranges.c13) (wider c.ranges.c13)
