-- Worked examples of ellipses with decimals: what each line earns, which kind it becomes, and its words.
use mathlib.Core.Path.{◌≡◌, refl}
use mathlib.Core.Bool.{Bool, true, cond, ◌&&◌}
use mathlib.Core.List.{List, [], ◌∷◌, ◌++◌, map}
use Prim.Native.Nat.{ℕ}
use Prim.Native.String.{String}
use lib.Dec.{eqb}
use lib.IntN.{pos, negsuc}
use Rattle.plans.specs.Indices.{all, any}
use Rattle.plans.specs.Form.{matrix_good}
use Rattle.plans.specs.Kinds.{kind_number}
use Rattle.integers.specs.Range.{in_range}
use Rattle.text.specs.Bytes.{bytes, same, every}
use Rattle.text.specs.Lines.{fields}
use Rattle.text.specs.Names.{is_name}
use Rattle.text.specs.Numbers.{is_negative, unsigned, is_positive, is_number, number_value, clamp_to, clamp}
use Rattle.decimals.specs.Decimals.{has_point, before_point, after_point, unsigned_thousandths, thousandths, is_whole, is_one_to_three, is_minus_zero, is_decimal}
use Rattle.gates.specs.Kinds.{carries_point, kind_named, line_kind, step_kind, is_none, is_parent, dimension_of, value_of, thousandths_of}
use Rattle.gates.specs.Rules.{ellip_rule, rule_of, number_refusal, decimal_refusal, repeated, dimension_passes, field_refusal, fields_refusal}
use Rattle.gates.specs.Refusal.{kind_refusal, line_refusal}
use Rattle.gates.specs.Gate.{decimal_ellip}
use Rattle.gates.specs.Encoding.{axes_word, decimal_word, leaf_words}

abbrev head : List (List ℕ)
head = bytes "A" ∷ bytes "B" ∷ []

-- the fields of an ellipse over A and B: its means, c11, c12, c22 and D², with spaces for tabs
abbrev ellipse : List ℕ → List (List ℕ)
ellipse s = fields (map (λ c. cond (eqb c 32) 9 c) (bytes "ellip E - A B " ++ s))

-- a point in any of the four makes kind 7
pub kinds_become :
    map
    (λ s. kind_number (step_kind (line_kind (ellipse (bytes s)))))
    ("0 0 1.0 0 1 1" ∷ "0 0 1 0.0 1 1" ∷ "0 0 1 0 1.000 1" ∷ "0 0 1 0 1 1.0" ∷ "0 0 1 0 1 1" ∷ "0.0 0.0 1 0 1 1" ∷ [])
    ≡ 7 ∷ 7 ∷ 7 ∷ 7 ∷ 3 ∷ 3 ∷ []
unfolding any same fields has_point carries_point kind_named
kinds_become = refl

-- each line of a list earns a refusal; 99 is none
abbrev earn : ℕ → List String → Bool
earn n lines = every (λ s. eqb (line_refusal head (ellipse (bytes s))) n) lines

-- the ranges and the matrix by exact values, where a whole entry beside decimals has their range, and that of 01 without them; whole means, no minus zero, one
-- to three decimals
pub decimals-earn :
    (earn 99
    ("-5 6 1134.5 -0.5 30625 0.001" ∷ "0 0 2000000.000 0 2000000 4096.0" ∷ "0 0 2000000 -1999999.999 2000000 1"
    ∷ "0 0 2000001 0 1 1" ∷ "0 0 0.5 0.499 0.5 1" ∷ [])
    && (earn 8 ("0 0 2000000.001 0 1 1" ∷ "0 0 1.0 -2000000.001 1 1" ∷ "0 0 2000001 0 1.0 1" ∷ "0 0 1 0 1 4096.001" ∷ "0 0 1 0 1 0.000" ∷ [])
    && (earn 11 ("0 0 0.5 0.5 0.5 1" ∷ "0 0 1.0 -2000000 1 1" ∷ "0 0 0.0 0 1 1" ∷ [])
    && (earn 7 ("0.0 0 1.5 0 1 1" ∷ "0.0 0 1 0 1 1" ∷ "0 0 1 -0.0 1 1" ∷ "0 0 1.5000 0 1 1" ∷ "0 0 1. 0 1 1" ∷ [])
    && earn 5 ("0 0 1.5 0 1" ∷ [])))))
    ≡ true
unfolding all any matrix_good in_range same fields is_name is_negative unsigned is_positive is_number number_value
    clamp_to clamp has_point before_point after_point
    unsigned_thousandths thousandths is_whole is_one_to_three is_minus_zero is_decimal carries_point kind_named
    is_none is_parent dimension_of value_of thousandths_of
    ellip_rule rule_of number_refusal decimal_refusal repeated dimension_passes field_refusal fields_refusal kind_refusal line_refusal
decimals-earn = refl

pub decimal-words :
    leaf_words (decimal_ellip head (ellipse (bytes "-5 6 1134.5 -0.5 30625 0.001")))
    ≡ pos 0 ∷ pos 1 ∷ negsuc 4 ∷ pos 6 ∷ pos 1134500 ∷ negsuc 499 ∷ pos 30625000 ∷ pos 1 ∷ []
unfolding same fields is_negative unsigned is_positive is_number number_value clamp_to clamp has_point before_point after_point unsigned_thousandths thousandths
    is_whole is_one_to_three is_minus_zero is_decimal dimension_of value_of thousandths_of axes_word decimal_word
decimal-words = refl
