-- Column heads (02: "Event lists now come with a line of dimension names, and counting from a table tests it. Names equal to the head, in the same
-- order, are taken; all else is refused").
use Rattle.std.specs.Prelude.{Bool, true, false, cond, ◌&&◌, List, [], ◌∷◌, ℕ, suc}
use Rattle.plans.specs.Refusals.{Verdict, passed, refused}
use Rattle.text.specs.Bytes.{same}
use Rattle.text.specs.Lines.{fields, unfields}
use Rattle.gates.specs.Gate.{Name}
use Rattle.tables.specs.Head.{dimensions}

-- the same names, in the same order
abbrev pub same_names : List Name → List Name → Bool
same_names [] [] = true
same_names [] (y ∷ b) = false
same_names (x ∷ a) [] = false
same_names (x ∷ a) (y ∷ b) = same x y && same_names a b

-- the first name that differs, counted from 0; of names of which the one list goes on where the other ends, the end of the shorter
abbrev pub first_differing : List Name → List Name → ℕ
first_differing [] b = 0
first_differing (x ∷ a) [] = 0
first_differing (x ∷ a) (y ∷ b) = cond (same x y) (suc (first_differing a b)) 0

-- the column line that is taken
unfoldable pub is_right : List ℕ → List ℕ → Bool
is_right text line = same_names (dimensions text) (fields line)

-- the names of the head, parted by tabs
unfoldable pub right_line : List ℕ → List ℕ
right_line text = unfields (dimensions text)

-- 31 wrong columns: "place the first differing field, from 0, of the first wrong line"
abbrev pub columns_verdict : List ℕ → List (List ℕ) → Verdict
columns_verdict text [] = passed
columns_verdict text (line ∷ ls) = cond (is_right text line) (columns_verdict text ls) (refused 31 (first_differing (dimensions text) (fields line)))
