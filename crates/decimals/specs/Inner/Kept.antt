-- What reading a number with decimals answers, and the thousandths that are kept of it.
use Rattle.std.specs.Prelude.{ℕ, cond, List, ℤ, pos, Option, Some, None, unwrap_or}
use Rattle.text.specs.Numbers.{clamp_to}
use Rattle.decimals.specs.Decimals.{is_decimal, thousandths}

-- what is read of s: its thousandths, kept within ±(2^31 − 1)
unfoldable pub read_decimal : List ℕ → Option ℤ
read_decimal s = cond (is_decimal s) (Some (clamp_to 2147483647 (thousandths s))) None

-- the thousandths kept of what was read; 0 where the form is not good
abbrev pub kept : Option ℤ → ℤ
kept read = unwrap_or read (pos 0)
