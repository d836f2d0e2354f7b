-- The words of a step, from a gate line and the numbers of the regions that it refers to.
use Rattle.std.specs.Prelude.{Bool, cond, List, [], ◌∷◌, ◌++◌, ℕ, ◌+◌, ◌*◌, min, ltb, ℤ, pos, negsuc}
use Rattle.text.specs.Bounded.{tab}
use Rattle.gates.specs.Kinds.{field_at, line_kind, is_none, is_complement, operand_name}
use Rattle.gates.specs.Gate.{Region}
use Rattle.gates.specs.Inner.Regions.{step_number, combines, body_length, body_word_of}
use Rattle.tables.specs.Table.{number_of}

-- ---- by numbers

-- a number as a word; each number of a step is below 65,536, and a greater one is held at 65,535
unfoldable pub number_word : ℕ → ℤ
number_word n = pos (min n 65535)

-- the number of the parent's region, which is below 64; −1 for none
unfoldable pub parent_number_word : ℕ → ℤ
parent_number_word p = cond (ltb p 64) (pos p) (negsuc 0)

-- kind, region, parent, body length
unfoldable pub header : ℕ → ℕ → ℕ → ℕ → List ℤ
header kind region parent length = pos kind ∷ number_word region ∷ parent_number_word parent ∷ number_word length ∷ []

-- 2 × region, plus 1 for `!`
unfoldable pub operand_number_word : ℕ → Bool → ℤ
operand_number_word region complement = number_word (2 * region + cond complement 1 0)

-- the header of a line's step, and a body of as many words as the line has
abbrev pub step_by : List (List ℕ) → ℕ → ℕ → (ℕ → ℤ) → List ℤ
step_by fs region parent word = header (step_number (line_kind fs)) region parent (body_length fs) ++ tab word (body_length fs)

-- ---- by the regions of a table; a number of more than 64 is held at 64

-- word j of the body of a combination
unfoldable pub operand_at : List Region → List (List ℕ) → ℕ → ℤ
operand_at rs fs j = operand_number_word (min 64 (number_of rs (operand_name (field_at fs (3 + j))))) (is_complement (field_at fs (3 + j)))

-- the number of the parent's region; 64 for none
unfoldable pub parent_number : List Region → List (List ℕ) → ℕ
parent_number rs fs = cond (is_none (field_at fs 2)) 64 (min 64 (number_of rs (field_at fs 2)))

-- the step of region q of a line, with its number
unfoldable pub line_step : List (List ℕ) → List Region → List (List ℕ) → ℕ → ℕ → List ℤ
line_step head rs fs q region = step_by fs region (parent_number rs fs) (cond (combines (line_kind fs)) (operand_at rs fs) (body_word_of head fs q))
