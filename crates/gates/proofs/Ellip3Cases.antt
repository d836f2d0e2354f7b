-- Worked examples of ellipsoids: what each line earns, which kind it becomes, and its words.
use mathlib.Core.Path.{◌≡◌, refl}
use mathlib.Core.Bool.{Bool, true, cond, ◌&&◌}
use mathlib.Core.List.{List, [], ◌∷◌, ◌++◌, map}
use Prim.Native.Nat.{ℕ}
use Prim.Native.String.{String}
use lib.Dec.{eqb}
use lib.IntN.{pos, negsuc}
use Rattle.plans.specs.Indices.{all, any}
use Rattle.plans.specs.Form.{matrix_good, matrix3_good}
use Rattle.plans.specs.Kinds.{kind_number}
use Rattle.integers.specs.Range.{in_range}
use Rattle.text.specs.Bytes.{bytes, same, every}
use Rattle.text.specs.Lines.{fields}
use Rattle.text.specs.Names.{is_name}
use Rattle.text.specs.Numbers.{is_negative, unsigned, is_positive, is_number, number_value, clamp_to, clamp}
use Rattle.decimals.specs.Decimals.{has_point}
use Rattle.gates.specs.Kinds.{carries_point, kind_named, line_kind, step_kind, is_none, is_parent, dimension_of, value_of}
use Rattle.gates.specs.Rules.{ellip3_rule, rule_of, number_refusal, repeated, dimension_passes, field_refusal, fields_refusal}
use Rattle.gates.specs.Refusal.{kind_refusal, line_refusal}
use Rattle.gates.specs.Gate.{ellip3}
use Rattle.gates.specs.Encoding.{axes_word, leaf_words}

abbrev head : List (List ℕ)
head = bytes "A" ∷ bytes "B" ∷ bytes "C" ∷ []

-- the fields of a line, with spaces for tabs
abbrev line : List ℕ → List (List ℕ)
line s = fields (map (λ c. cond (eqb c 32) 9 c) s)

-- those of an ellipsoid from its dimensions on
abbrev ellipsoid : List ℕ → List (List ℕ)
ellipsoid s = line (bytes "ellip3 E - " ++ s)

-- each line of a list earns a refusal; 99 is none
abbrev earn : ℕ → List String → Bool
earn n lines = every (λ s. eqb (line_refusal head (ellipsoid (bytes s))) n) lines

-- points make no kind 7 of it and are no numbers there; ranges are 01's; each of the three minors is asked
pub ellipsoids_earn :
    (earn 99 ("A B C 0 0 0 7 2 1 5 -1 3 7" ∷ "C A B -65536 65535 0 16777216 0 0 16777216 0 16777216 4096" ∷ [])
    && (earn 5 ("A B C 0 0 0 7 2 1 5 -1 3" ∷ "A B C 0 0 0 7 2 1 5 -1 3 7 1" ∷ "A B 0 0 7 2 5 7" ∷ [])
    && (earn 7 ("A B C 0 0 0 7.0 2 1 5 -1 3 7" ∷ "A B C 0 0 0 7 2 1 5 -1 3 7.5" ∷ "A B C 0 0 0 7 2 * 5 -1 3 7" ∷ "A B C 0 0.5 0 7 2 1 5 -1 3 7" ∷ [])
    && (earn 8 ("A B C 0 0 65536 7 2 1 5 -1 3 7" ∷ "A B C 0 0 0 7 2 1 5 -1 16777217 7" ∷ "A B C 0 0 0 7 2 1 5 -1 3 0" ∷ "A B C 0 0 0 7 2 1 5 -1 3 4097" ∷ [])
    && (earn 9 ("A B A 0 0 0 7 2 1 5 -1 3 7" ∷ "A B D 0 0 0 7 2 1 5 -1 3 7" ∷ [])
    && earn 11 ("A B C 0 0 0 -1 0 0 -1 0 1 1" ∷ "A B C 0 0 0 1 0 0 -1 0 -1 1" ∷ "A B C 0 0 0 1 0 0 1 0 -1 1" ∷ "A B C 0 0 0 1 1 1 2 1 1 1" ∷ []))))))
    ≡ true
unfolding all any matrix_good matrix3_good in_range same fields is_name is_negative unsigned is_positive is_number
    number_value clamp_to clamp has_point carries_point
    kind_named is_none is_parent dimension_of value_of ellip3_rule rule_of number_refusal repeated dimension_passes
    field_refusal fields_refusal kind_refusal line_refusal
ellipsoids_earn = refl

pub ellipsoid-kind : kind_number (step_kind (line_kind (ellipsoid (bytes "A B C 0 0.5 0 7.0 2 1 5 -1 3 7")))) ≡ 8
unfolding any same fields has_point carries_point kind_named
ellipsoid-kind = refl

pub ellipsoid-words :
    leaf_words (ellip3 head (ellipsoid (bytes "C A B -5 6 0 7 2 1 5 -1 3 4")))
    ≡ pos 2 ∷ pos 0 ∷ pos 1 ∷ negsuc 4 ∷ pos 6 ∷ pos 0 ∷ pos 7 ∷ pos 2 ∷ pos 1 ∷ pos 5 ∷ negsuc 0 ∷ pos 3 ∷ pos 4 ∷ []
unfolding same fields is_negative unsigned is_positive is_number number_value clamp_to clamp dimension_of value_of axes_word
ellipsoid-words = refl
