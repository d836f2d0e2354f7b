-- The number of a gate line's refusal is one of 4 to 12, or that of none.
use mathlib.Core.Path.{◌≡◌, refl}
use mathlib.Core.Logic.{◌⊎◌, inl, inr}
use mathlib.Core.Bool.{Bool, true, false, not, cond}
use mathlib.Core.List.{List}
use Prim.Native.Nat.{ℕ, zero, suc, ◌-◌, ◌<◌, ◌≤◌, min}
use native.Mathlib.Omega.{arith}
use native.Mathlib.Decide.{dec_lt}
use lib.Dec.{ltb}
use lib.IntN.{ℤ}
use lib.ListN.{length}
use Rattle.text.specs.Bounded.{least}
use Rattle.text.specs.Numbers.{is_number, number_value}
use Rattle.decimals.specs.Decimals.{is_decimal, thousandths}
use Rattle.integers.specs.Range.{in_range}
use Rattle.text.specs.Names.{is_name}
use Rattle.gates.specs.declared.LineKind.{LineKind}
use Rattle.gates.specs.declared.Rule.{Rule}
use Rattle.gates.specs.declared.Rule.TheVariants.{Free, Name, Parent, Operand, Dimension, Coordinate, Entry, Distance, DecimalEntry, DecimalDistance, Min, Max, Value, Rising, Representative}
use Rattle.gates.specs.Kinds.{line_kind, is_unknown, is_star, is_parent, is_operand}
use Rattle.gates.specs.Rules.{no_refusal, unless, number_refusal, decimal_refusal, optional_refusal, uncrossed, earned, field_refusal, fields_refusal, rule_of}
use Rattle.gates.specs.Refusal.{kind_refusal, line_refusal, shape_good, matrix_passes, tiling_passes}

abbrev pub Listed : ℕ → Type 0
Listed k = (4 ≤ k) × ((k ≤ 12) ⊎ (k ≡ no_refusal))

none : Listed no_refusal
none = (omega arith, inr refl)

of : (k : ℕ) → 4 ≤ k → k ≤ 12 → Listed k
of k h l = (h, inl l)

either : (b : Bool) {x y : ℕ} → Listed x → Listed y → Listed (cond b x y)
either true h k = h
either false h k = k

lesser : (x y : ℕ) → Listed x → Listed y → Listed (min x y)
lesser x y h k = go (dec_lt x y)
  where
    go : Dec (x < y) → Listed (min x y)
    go (yes l) = let e : min x y ≡ x = omega arith in rw e h
    go (no l) = let e : min x y ≡ y = omega arith in rw e k

least-listed : (f : ℕ → ℕ) → ((i : ℕ) → Listed (f i)) → (n : ℕ) → Listed (least f no_refusal n)
least-listed f h zero = none
least-listed f h (suc n) = lesser (least f no_refusal n) (f n) (least-listed f h n) (h n)

unless-listed : (b : Bool) (k : ℕ) → 4 ≤ k → k ≤ 12 → Listed (unless b k)
unless-listed b k h l = either b none (of k h l)

-- a form, then a range
held-listed : (good in-range : Bool) → Listed (cond good (unless in-range 8) 7)
held-listed good in-range = either good (unless-listed in-range 8 (omega arith) (omega arith)) (of 7 (omega arith) (omega arith))

number-listed : (lo hi : ℤ) (x : List ℕ) → Listed (number_refusal lo hi x)
unfolding number_refusal
number-listed lo hi x = held-listed (is_number x) (in_range lo hi (number_value x))

decimal-listed : (lo hi : ℤ) (x : List ℕ) → Listed (decimal_refusal lo hi x)
unfolding decimal_refusal
decimal-listed lo hi x = held-listed (is_decimal x) (in_range lo hi (thousandths x))

optional_listed : (lo hi : ℤ) (x : List ℕ) → Listed (optional_refusal lo hi x)
unfolding optional_refusal
optional_listed lo hi x = either (is_star x) none (number-listed lo hi x)

crossed_listed : (y x : List ℕ) → Listed (unless (uncrossed y x) 10)
crossed_listed y x = unless-listed (uncrossed y x) 10 (omega arith) (omega arith)

earned-listed : (rule : Rule) (b : Bool) (y x : List ℕ) → Listed (earned rule b y x)
earned-listed Free b y x = none
earned-listed Name b y x = unless-listed (is_name x) 6 (omega arith) (omega arith)
earned-listed Parent b y x = unless-listed (is_parent x) 6 (omega arith) (omega arith)
earned-listed Operand b y x = unless-listed (is_operand x) 6 (omega arith) (omega arith)
earned-listed Dimension b y x = unless-listed b 9 (omega arith) (omega arith)
earned-listed Coordinate b y x = number-listed _ _ x
earned-listed Entry b y x = number-listed _ _ x
earned-listed Distance b y x = number-listed _ _ x
earned-listed DecimalEntry b y x = decimal-listed _ _ x
earned-listed DecimalDistance b y x = decimal-listed _ _ x
earned-listed Min b y x = optional_listed _ _ x
earned-listed Max b y x = lesser _ _ (optional_listed _ _ x) (crossed_listed y x)
earned-listed Value b y x = number-listed _ _ x
earned-listed Rising b y x = lesser _ _ (number-listed _ _ x) (crossed_listed y x)
earned-listed Representative b y x = optional_listed _ _ x

fields-listed : (head : List (List ℕ)) (kind : LineKind) (fs : List (List ℕ)) → Listed (fields_refusal head kind fs)
unfolding fields_refusal field_refusal
fields-listed head kind fs = least-listed (field_refusal head kind fs) (λ i. earned-listed (rule_of kind fs i) _ _ _) (length fs)

pub line-listed : (head fs : List (List ℕ)) → Listed (line_refusal head fs)
unfolding line_refusal kind_refusal
line-listed head fs =
    let kind = line_kind fs in
    either (is_unknown kind) (of 4 (omega arith) (omega arith))
    (either (not (shape_good kind (length fs - 3) fs)) (of 5 (omega arith) (omega arith))
    (either (ltb (fields_refusal head kind fs) no_refusal) (fields-listed head kind fs)
    (either (not (matrix_passes kind fs)) (of 11 (omega arith) (omega arith))
    (either (not (tiling_passes kind fs)) (of 12 (omega arith) (omega arith)) none))))
