-- Laws of the rules, as the code applies them.
use Rattle.std.proofs.Common.{◌≡◌, refl, ap, Bool, true, false, cond, Some, None, List, ℕ, zero, suc, ◌≤◌, arith, ℤ}
use Rattle.std.specs.Option.{option_map_or}
use Rattle.integers.specs.Range.{in_range}
use Rattle.text.specs.Bounded.{last}
use Rattle.text.specs.Numbers.{is_number, number_value}
use Rattle.text.specs.Inner.Kept.{read_number}
use Rattle.text.proofs.NumbersLaws.{within-clamp}
use Rattle.text.proofs.ClampLaws.{within-clamp_to}
use Rattle.decimals.specs.Decimals.{is_decimal, thousandths}
use Rattle.decimals.specs.Inner.Kept.{read_decimal}
use Rattle.gates.specs.Inner.Bounds.{Bound, DecimalBound}
use Rattle.gates.specs.Rules.{unless, number_refusal, decimal_refusal}

-- the last index below n of which f holds, or 0
pub last-below : (f : ℕ → Bool) (n : ℕ) → last f 0 n ≤ n
last-below f zero = omega arith
last-below f (suc n) = go (f n) (last-below f n)
  where
    go : (b : Bool) → last f 0 n ≤ n → cond b n (last f 0 n) ≤ suc n
    go true h = omega arith
    go false h = omega arith

-- ---- numbers

-- what is read of a number earns, between the ends as they are kept, what its value earns
range_earns : (good : Bool) (a b lo hi v kept : ℤ) → a ≡ lo → b ≡ hi → in_range lo hi kept ≡ in_range lo hi v
    → option_map_or (λ z. unless (in_range a b z) 8) (cond good (Some kept) None) 7 ≡ cond good (unless (in_range lo hi v) 8) 7
range_earns true a b lo hi v kept p q e = rw (p, q) (ap (λ (b : Bool). unless b 8) e)
range_earns false a b lo hi v kept p q e = refl

module _ (a b lo hi : ℤ) (x : List ℕ) (p : a ≡ lo) (q : b ≡ hi) where
  pub number-earns : Bound lo → Bound hi → option_map_or (λ z. unless (in_range a b z) 8) (read_number x) 7 ≡ number_refusal lo hi x
  unfolding number_refusal read_number
  number-earns g h = range_earns (is_number x) a b lo hi (number_value x) _ p q (within-clamp lo hi (number_value x) g h)

  pub decimal-earns : DecimalBound lo → DecimalBound hi → option_map_or (λ z. unless (in_range a b z) 8) (read_decimal x) 7 ≡ decimal_refusal lo hi x
  unfolding decimal_refusal read_decimal
  decimal-earns g h = range_earns (is_decimal x) a b lo hi (thousandths x) _ p q (within-clamp_to 2147483647 lo hi (thousandths x) g h)
