-- Laws of what is kept of a value within a bound: it decides every range inside the bound as the value does.
use mathlib.Core.Path.{◌≡◌, refl, sym, ap₂}
use mathlib.Core.Bool.{Bool, true, false, ◌&&◌}
use Prim.Native.Nat.{ℕ, zero, suc, ◌-◌, ◌≤◌, ◌<◌, min}
use native.Mathlib.Omega.{arith}
use lib.IntN.{ℤ, pos, negsuc, nat_abs}
use lib.Signed.{le_z}
use borrow.Author.Tests.{leb-true}
use Rattle.integers.specs.Range.{in_range}
use Rattle.text.specs.Numbers.{signed, clamp_to}
use Rattle.text.proofs.TestLaws.{true≢false, and_left, and_right, leb_iff}

pub clamp_to-signed : (b : ℕ) → 0 < b → (minus : Bool) (n : ℕ) → clamp_to b (signed minus n) ≡ signed minus (min n b)
unfolding clamp_to
clamp_to-signed b p false n = refl
clamp_to-signed b p true zero = let e : min 0 b ≡ 0 = omega arith in rw e
clamp_to-signed b p true (suc n) = let e : min (suc n) b ≡ suc (min n (b - 1)) = omega arith in rw e

-- ── Ranges whose bounds are less than b in size ──

low : (b : ℕ) (lo v : ℤ) → nat_abs lo < b → le_z lo (clamp_to b v) ≡ le_z lo v
unfolding clamp_to
low b (pos a) (pos n) h = leb_iff a (min n b) a n (omega arith) (omega arith)
low b (pos a) (negsuc n) h = refl
low b (negsuc a) (pos n) h = refl
low b (negsuc a) (negsuc n) h = leb_iff (min n (b - 1)) a n a (omega arith) (omega arith)

high : (b : ℕ) (hi v : ℤ) → nat_abs hi < b → le_z (clamp_to b v) hi ≡ le_z v hi
unfolding clamp_to
high b (pos a) (pos n) h = leb_iff (min n b) a n a (omega arith) (omega arith)
high b (pos a) (negsuc n) h = refl
high b (negsuc a) (pos n) h = refl
high b (negsuc a) (negsuc n) h = leb_iff a (min n (b - 1)) a n (omega arith) (omega arith)

-- a value within b is kept
clamp_to-is : (b : ℕ) (v : ℤ) → nat_abs v ≤ b → clamp_to b v ≡ v
unfolding clamp_to
clamp_to-is b (pos n) h = let e : min n b ≡ n = omega arith in rw e
clamp_to-is b (negsuc n) h = let e : min n (b - 1) ≡ n = omega arith in rw e

bounded : (b : ℕ) (lo hi v : ℤ) → nat_abs lo < b → nat_abs hi < b → le_z lo v ≡ true → le_z v hi ≡ true → nat_abs v ≤ b
bounded b lo (pos m) (pos n) g h l k = omega (arith, leb-true n m k)
bounded b lo (negsuc m) (pos n) g h l k = absurd (true≢false (sym k))
bounded b (pos m) hi (negsuc n) g h l k = absurd (true≢false (sym l))
bounded b (negsuc m) hi (negsuc n) g h l k = omega (arith, leb-true n m l)

module _ (b : ℕ) (lo hi v : ℤ) (g : nat_abs lo < b) (h : nat_abs hi < b) where
  -- what is kept lies in a range exactly where the value does
  pub within-clamp_to : in_range lo hi (clamp_to b v) ≡ in_range lo hi v
  unfolding in_range
  within-clamp_to = ap₂ ◌&&◌ (low b lo v g) (high b hi v h)

  -- and is then the value
  pub clamp_to-within : in_range lo hi v ≡ true → clamp_to b v ≡ v
  unfolding in_range
  clamp_to-within e = clamp_to-is b v (bounded b lo hi v g h (and_left (le_z lo v) (le_z v hi) e) (and_right (le_z lo v) (le_z v hi) e))

-- kept twice, the second time no closer
pub min-min : (n a b : ℕ) → a ≤ b → min (min n a) b ≡ min n a
min-min n a b h = omega arith
