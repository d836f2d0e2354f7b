-- Laws of specs/Decimals: the parts at the point, and what is kept of the thousandths decides every range as the value does.
use mathlib.Core.Path.{◌≡◌, refl, sym, ◌∙◌}
use mathlib.Core.Bool.{Bool, true, false, cond}
use mathlib.Core.List.{List, [], ◌++◌}
use Prim.Native.Nat.{ℕ, zero, suc, ◌+◌, ◌*◌, ◌≤◌, ◌<◌, min}
use native.Mathlib.Omega.{arith}
use lib.Dec.{eqb}
use lib.IntN.{ℤ, pos, nat_abs}
use lib.ListN.{length, take, drop_of_length-le}
use borrow.Author.Tests.{ne_eqb}
use Rattle.integers.specs.Range.{in_range}
use Rattle.text.specs.Bytes.{bytes}
use Rattle.text.specs.Numbers.{digits_value, clamp_to}
use Rattle.decimals.specs.Decimals.{point_at, before_point, after_point, unsigned_thousandths, thousandths, is_decimal}
use Rattle.decimals.specs.Inner.Kept.{read_decimal, kept}
use Rattle.std.specs.Prelude.{Some, None}
use Rattle.std.proofs.lemmas.Option.{cond_some}
use Rattle.text.proofs.ClampLaws.{within-clamp_to, clamp_to-within}

-- ── The point ──

-- where there is no point nothing stands behind it
pub after_none : (s : List ℕ) → length s ≤ point_at s → after_point s ≡ []
unfolding after_point
after_none s h = let l : length s ≤ point_at s + 1 = omega arith in drop_of_length-le s l

-- ── Thousandths, kept at most 2^31 − 1 ──

-- a whole part that is cut at 2^30 lies beyond in thousandths
pub thousandths-cut : (u : List ℕ)
    → min (unsigned_thousandths u) 2147483647
    ≡ min (min (digits_value 0 (before_point u)) 1073741824 * 1000 + digits_value 0 (take 3 (after_point u ++ bytes "000"))) 2147483647
unfolding unsigned_thousandths
thousandths-cut u = omega arith

pub zero-kept : (n : ℕ) → eqb (min n 2147483647) 0 ≡ eqb n 0
zero-kept zero = refl
zero-kept (suc n) = ne_eqb (min (suc n) 2147483647) 0 (λ e. omega arith) ∙ sym (ne_eqb (suc n) 0 (λ e. omega arith))

-- ── What is read ──

module _ (s : List ℕ) where
  pub decimal-bad : is_decimal s ≡ false → read_decimal s ≡ None
  unfolding read_decimal
  decimal-bad e = rw e

  pub decimal-value : is_decimal s ≡ true → read_decimal s ≡ Some (clamp_to 2147483647 (thousandths s))
  unfolding read_decimal
  decimal-value e = rw e

  -- the thousandths kept of what is read
  pub kept-decimal : kept (read_decimal s) ≡ cond (is_decimal s) (clamp_to 2147483647 (thousandths s)) (pos 0)
  unfolding read_decimal
  kept-decimal = go (is_decimal s)
    where
      go : (b : Bool) → kept (cond b (Some (clamp_to 2147483647 (thousandths s))) None) ≡ cond b (clamp_to 2147483647 (thousandths s)) (pos 0)
      go true = refl
      go false = refl

  pub bad-decimal : read_decimal s ≡ None → is_decimal s ≡ false
  unfolding read_decimal
  bad-decimal = go (is_decimal s)
    where
      go : (b : Bool) → cond b (Some (clamp_to 2147483647 (thousandths s))) None ≡ None → b ≡ false
      go true e = absurd cc
      go false e = refl

  pub value-decimal : (z : ℤ) → read_decimal s ≡ Some z → (is_decimal s ≡ true) × (z ≡ clamp_to 2147483647 (thousandths s))
  unfolding read_decimal
  value-decimal z e = let read = cond_some (is_decimal s) (clamp_to 2147483647 (thousandths s)) z e in (read.0, sym read.1)

-- thousandths that are read lie in a range exactly where the number's value does, and are then that value
module _ (s : List ℕ) (z : ℤ) (e : read_decimal s ≡ Some z) (lo hi : ℤ) (g : nat_abs lo < 2147483647) (h : nat_abs hi < 2147483647) where
  pub decimal-within : in_range lo hi z ≡ in_range lo hi (thousandths s)
  decimal-within = rw (value-decimal s z e).1 (within-clamp_to 2147483647 lo hi (thousandths s) g h)

  pub decimal-is : in_range lo hi (thousandths s) ≡ true → z ≡ thousandths s
  decimal-is w = (value-decimal s z e).1 ∙ clamp_to-within 2147483647 lo hi (thousandths s) g h w
