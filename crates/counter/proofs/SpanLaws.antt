-- How far a number is above another, and a range by that.
use mathlib.Core.Path.{◌≡◌, refl, ap₂}
use mathlib.Core.Bool.{Bool, true, false, ◌&&◌}
use Prim.Native.Nat.{ℕ, ◌<◌, ◌≤◌}
use native.Mathlib.Omega.{arith}
use lib.IntN.{ℤ, pos, negsuc, nat_abs, ◌-ℤ◌}
use lib.Dec.{T}
use lib.Signed.{le_z, lt_z, non_neg, mag, ◌≤ℤ◌, ◌<ℤ◌}
use mir.Syntax.{w32, w64}
use mir.Val.{SFits, Fits}
use Rattle.integers.specs.Inner.Parts.{up, dn}
use Rattle.integers.proofs.Parts.{sub_ℤ_ud, abs_ud}
use Rattle.integers.proofs.Order.{zarith}
use Rattle.integers.proofs.Bounds.{fit, in_sub, in_fit}

-- a number of 32 bits
high : (z : ℤ) → mag z < 2147483648 → up z < 2147483648
high (pos u) h = h
high (negsuc u) h = omega arith

low : (z : ℤ) → mag z < 2147483648 → dn z ≤ 2147483648
low (pos u) h = omega arith
low (negsuc u) h = omega arith

is-non_neg : (z : ℤ) → pos 0 ≤ℤ z → T (non_neg z)
is-non_neg (pos u) h = tt
is-non_neg (negsuc u) h = absurd h.le

pub difference-fits : {x y : ℤ} → SFits w32 x → SFits w32 y → SFits w64 (x -ℤ y)
difference-fits f g = fit tt (in_sub (in_fit w32 f) (in_fit w32 g))

-- the difference of two, the greater first, is one of 32 bits without a sign
pub span_fits : (min max : ℤ) → SFits w32 min → SFits w32 max → min <ℤ max → T (non_neg (max -ℤ min)) × Fits w32 (nat_abs (max -ℤ min))
span_fits min max f g h =
    let d = sub_ℤ_ud max min in
    let a = high max g.sfits in
    let b = low min f.sfits in
    let n = abs_ud (max -ℤ min) in
    (is-non_neg (max -ℤ min) (omega (zarith, d)), record { fits = omega (zarith, h) })

pub span_number : (z : ℤ) → T (non_neg z) → pos (nat_abs z) ≡ z
span_number (pos u) h = refl
span_number (negsuc u) h = absurd h

-- a number is from min on and less than the span above it: from min on and below max
pub span_range : (value min max : ℤ) {span : ℕ} → pos span ≡ max -ℤ min
    → (le_z (pos 0) (value -ℤ min) && lt_z (value -ℤ min) (pos span)) ≡ (le_z min value && lt_z value max)
span_range value min max {span} e = ap₂ (λ (x y : Bool). x && y) (from (le_z min value) refl) (to (lt_z value max) refl)
  where
    from : (b : Bool) → le_z min value ≡ b → le_z (pos 0) (value -ℤ min) ≡ b
    from true h = omega (zarith, sub_ℤ_ud value min)
    from false h = omega (zarith, sub_ℤ_ud value min)

    to : (b : Bool) → lt_z value max ≡ b → lt_z (value -ℤ min) (pos span) ≡ b
    to true h = omega (zarith, sub_ℤ_ud value min, sub_ℤ_ud max min)
    to false h = omega (zarith, sub_ℤ_ud value min, sub_ℤ_ud max min)
