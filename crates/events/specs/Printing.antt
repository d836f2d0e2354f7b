-- Printed lines (01: "It prints name and count per region in table order, then `taken`, `spoilt`; or `refused`, number, place"; spaces stand for tabs).
use Rattle.std.specs.Prelude.{ℕ, cond, List, [], ◌∷◌, ◌++◌, eqb}
use Rattle.plans.specs.Refusals.{Verdict}
use Rattle.text.specs.Bytes.{bytes}
use Rattle.text.specs.Output.{decimal}

-- tab and number
abbrev pub number_field : ℕ → List ℕ
number_field x = 9 ∷ decimal x

-- fields of numbers, then LF
abbrev pub numbers_text : List ℕ → List ℕ
numbers_text [] = 10 ∷ []
numbers_text (x ∷ xs) = number_field x ++ numbers_text xs

-- a printed line is a name and numbers
abbrev pub numbers_line : List ℕ → List ℕ → List ℕ
numbers_line name numbers = name ++ numbers_text numbers

unfoldable pub count_line : List ℕ → ℕ → List ℕ
count_line name count = numbers_line name (count ∷ [])

unfoldable pub taken_line : ℕ → List ℕ
taken_line count = count_line (bytes "taken") count

unfoldable pub spoilt_line : ℕ → List ℕ
spoilt_line count = count_line (bytes "spoilt") count

unfoldable pub refused_line : ℕ → ℕ → List ℕ
refused_line number place = numbers_line (bytes "refused") (number ∷ place ∷ [])

-- what is printed unless there is a refusal: then its number and place
abbrev pub unless_refused : Verdict → List ℕ → List ℕ
unless_refused v lines = cond (eqb v.number 0) lines (refused_line v.number v.place)
