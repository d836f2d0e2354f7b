-- Laws of single fields, as the code reads them.
use Rattle.std.proofs.Common.{◌≡◌, refl, Bool, true, false, cond, Some, None, unwrap_or, List, ℕ, ◌-◌, ◌≤◌, ℤ, pos, arith, length, drop}
use Rattle.text.specs.Lines.{fields}
use Rattle.text.specs.Numbers.{is_number}
use Rattle.text.specs.Inner.Kept.{read_number}
use Rattle.decimals.specs.Decimals.{is_decimal}
use Rattle.decimals.specs.Inner.Kept.{read_decimal}
use Rattle.text.specs.Inner.Places.{find_field}
use Rattle.text.proofs.TextTheorems.{fields-count}
use Rattle.gates.specs.Kinds.{dimension_of, value_of, thousandths_of}

-- a line has a field
pub some_field : (s : List ℕ) → 1 ≤ length (fields s)
some_field s = omega (arith, fields-count s)

-- the names of a head stand behind its first field
pub found-behind : (fs : List (List ℕ)) (x : List ℕ) → 1 ≤ find_field fs 1 x
unfolding find_field
found-behind fs x = omega arith

pub dimension-found : (fs : List (List ℕ)) (x : List ℕ) → find_field fs 1 x - 1 ≡ dimension_of (drop 1 fs) x
unfolding find_field dimension_of
dimension-found fs x = omega arith

-- what is read of a number, or 0
or-zero : (b : Bool) (z : ℤ) → unwrap_or (cond b (Some z) None) (pos 0) ≡ cond b z (pos 0)
or-zero true z = refl
or-zero false z = refl

pub number-or-zero : (x : List ℕ) → unwrap_or (read_number x) (pos 0) ≡ value_of x
unfolding read_number value_of
number-or-zero x = or-zero (is_number x) _

pub decimal-or-zero : (x : List ℕ) → unwrap_or (read_decimal x) (pos 0) ≡ thousandths_of x
unfolding read_decimal thousandths_of
decimal-or-zero x = or-zero (is_decimal x) _
