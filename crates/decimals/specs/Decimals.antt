-- Numbers with decimals (02: "may carry a point and one to three decimals; `-0.5` is a number, minus zero is not"): their form and their value.
use Rattle.std.specs.Prelude.{ℕ, ◌+◌, ◌*◌, Bool, not, cond, ◌&&◌, ◌||◌, List, ◌++◌, leb, ltb, eqb, ℤ, length, take, drop}
use Rattle.text.specs.Bytes.{bytes, same, every, before}
use Rattle.text.specs.Numbers.{is_digit, is_negative, unsigned, is_positive, is_number, digits_value, signed}

-- ── The point ──

-- how many bytes stand before the first point (byte 46); the length where there is none
abbrev pub point_at : List ℕ → ℕ
point_at s = before (λ c. eqb c 46) s

-- a point stands in s
unfoldable pub has_point : List ℕ → Bool
has_point s = ltb (point_at s) (length s)

-- what stands before the first point; all of s where there is none
unfoldable pub before_point : List ℕ → List ℕ
before_point s = take (point_at s) s

-- what stands after the first point; nothing where there is none
unfoldable pub after_point : List ℕ → List ℕ
after_point s = drop (point_at s + 1) s

-- ── Value ──

-- the value, in thousandths, of u, which has no sign: 1000 for each whole, and the decimals, filled up with zeros to three
unfoldable pub unsigned_thousandths : List ℕ → ℕ
unsigned_thousandths u = 1000 * digits_value 0 (before_point u) + digits_value 0 (take 3 (after_point u ++ bytes "000"))

-- the value of a number of any length, in thousandths; of a text that is no number (`is_decimal`) it says nothing
unfoldable pub thousandths : List ℕ → ℤ
thousandths s = signed (is_negative s) (unsigned_thousandths (unsigned s))

-- ── Form ──

-- `0`, or a digit 1 to 9, any digits
unfoldable pub is_whole : List ℕ → Bool
is_whole s = same s (bytes "0") || is_positive s

-- one to three digits
unfoldable pub is_one_to_three : List ℕ → Bool
is_one_to_three s = leb 1 (length s) && (leb (length s) 3 && every is_digit s)

-- of one to three decimals: a `-`, and the value zero
unfoldable pub is_minus_zero : List ℕ → Bool
is_minus_zero s = is_negative s && eqb (unsigned_thousandths (unsigned s)) 0

-- with a point: an optional `-`, a whole number, the point, one to three digits, but not minus zero; without one: 01's number
unfoldable pub is_decimal : List ℕ → Bool
is_decimal s = cond (has_point s) (is_whole (before_point (unsigned s)) && (is_one_to_three (after_point (unsigned s)) && not (is_minus_zero s))) (is_number s)
