-- A signed number of 64 bits by its bits and its sign.
use Rattle.std.proofs.Common.{◌≡◌, ℕ, suc, ◌+◌, ◌-◌, ◌*◌, ◌^◌, ◌≤◌, true, false, cond, T, ℤ, pos, negsuc, ◌+ℤ◌, ◌-ℤ◌, nat_abs, sym, refl, ap, ◌∙◌, subst, arith, to_z-of_z, w64, SFits, to_z, of_z}
use lib.Signed.{mag, lt_z, non_neg}
use mir.Syntax.{w128}
use mir.Facts.{sfits_widen}
use Rattle.integers.proofs.Parts.{add_ud, sub_ℤ_ud, abs_ud}
use Rattle.integers.proofs.Bounds.{fit-below}
use Rattle.integers.proofs.Order.{zarith}

-- 1 below 0
abbrev pub sign : ℤ → ℕ
sign (pos n) = 0
sign (negsuc n) = 1

sign-is : (b : ℤ) (x : ℕ) → cond (lt_z b (pos 0)) x 0 ≡ sign b * x
sign-is (pos n) x = let e : lt_z (pos n) (pos 0) ≡ false = omega zarith in rw e (omega arith)
sign-is (negsuc n) x = omega arith

-- what `when(b < 0, x)` gives
pub when_below : (b : ℤ) (x : ℕ) {r : ℕ} → SFits w64 b → r ≡ cond (lt_z (to_z w64 (of_z w64 b)) (pos 0)) x 0 → r ≡ sign b * x
when_below b x f e = (simp (to_z-of_z, f) at e) ∙ sign-is b x

-- a number is its bits, less 2^64 where it is below 0
pub by_bits : (b : ℤ) → SFits w64 b → b ≡ pos (of_z w64 b) -ℤ pos (sign b * 2 ^ 64)
by_bits (pos n) f = omega (zarith, sub_ℤ_ud (pos n) (pos (0 * 2 ^ 64)))
by_bits (negsuc n) f = let h = f.sfits in omega (zarith, sub_ℤ_ud (pos (2 ^ 64 - suc n)) (pos (1 * 2 ^ 64)))

-- ---- the sign in each bit of the high word
no_sign : (n : ℕ) → 0 * 18446744073709551615 * 2 ^ 64 + n ≡ n
no_sign n = omega arith

add_sub : (c b k : ℕ) → k ≤ b → c + (b - k) ≡ (c + b) - k
add_sub c b k h = omega arith

pub extended : (x : ℤ) → SFits w64 x → to_z w128 ((sign x * 18446744073709551615) * 2 ^ 64 + of_z w64 x) ≡ x
extended (pos n) f = ap (to_z w128) (no_sign n) ∙ to_z-of_z {w = w128} {z = pos n} (sfits_widen tt f)
extended (negsuc n) f =
    let h = f.sfits in
    ap (to_z w128) (add_sub (18446744073709551615 * 2 ^ 64) (2 ^ 64) (suc n) (omega arith))
    ∙ to_z-of_z {w = w128} {z = negsuc n} (sfits_widen tt f)

-- ---- how the code finds the bits: below 0 by -(x + 1)
pub record Below (x : ℤ) : Type 0 where
  pub sum_fits : SFits w64 (x +ℤ pos 1)
  pub is : pos 0 -ℤ (x +ℤ pos 1) ≡ pos (mag x)
  pub fits : SFits w64 (pos 0 -ℤ (x +ℤ pos 1))
  pub bits : 18446744073709551615 - mag x ≡ of_z w64 x

pub below-zero : (x : ℤ) → SFits w64 x → lt_z x (pos 0) ≡ true → Below x
below-zero (pos n) f e = let g : ⊥ = omega zarith in absurd g
below-zero (negsuc n) f e =
    let h = f.sfits in
    let i : pos 0 -ℤ (negsuc n +ℤ pos 1) ≡ pos n = omega (zarith, add_ud (negsuc n) (pos 1), sub_ℤ_ud (pos 0) (negsuc n +ℤ pos 1)) in
    record {
      sum_fits = fit-below {n = n} h (record { abs = omega (arith, add_ud (negsuc n) (pos 1), abs_ud (negsuc n +ℤ pos 1)) });
      is = i;
      fits = subst (SFits w64) (sym i) (record { sfits = h });
      bits = omega arith;
    }

pub record NotBelow (x : ℤ) : Type 0 where
  pub nonneg : T (non_neg x)
  pub bits : nat_abs x ≡ of_z w64 x

pub from_zero : (x : ℤ) → lt_z x (pos 0) ≡ false → NotBelow x
from_zero (pos n) e = record { nonneg = tt; bits = refl }
from_zero (negsuc n) e = let g : ⊥ = omega zarith in absurd g
