-- What reading a number answers, and the value that is kept of it.
use Rattle.std.specs.Prelude.{cond, List, ℕ, ℤ, pos, Option, Some, None, unwrap_or}
use Rattle.text.specs.Numbers.{is_number, number_value, clamp}

-- what is read of s
unfoldable pub read_number : List ℕ → Option ℤ
read_number s = cond (is_number s) (Some (clamp (number_value s))) None

-- the value kept of what was read; 0 where the form is not good
abbrev pub kept : Option ℤ → ℤ
kept read = unwrap_or read (pos 0)
