-- Places in a text: of a byte, of a field, of a line.
use Rattle.std.specs.Prelude.{ℕ, ◌+◌, ◌-◌, List, [], ◌∷◌, eqb, length, take, drop}
use Rattle.text.specs.Bytes.{same, before}
use Rattle.text.specs.Lines.{lines}

-- the place of the first byte c from place a on, or of the end
unfoldable pub find_from : List ℕ → ℕ → ℕ → ℕ
find_from s a c = a + before (λ x. eqb x c) (drop a s)

-- the number of the first field from field k on that is x, or of the fields
unfoldable pub find_field : List (List ℕ) → ℕ → List ℕ → ℕ
find_field fs k x = k + before (same x) (drop k fs)

-- the places where these lines begin, the first at a
abbrev pub starts_from : ℕ → List (List ℕ) → List ℕ
starts_from a [] = []
starts_from a (l ∷ ls) = a ∷ starts_from (a + length l + 1) ls

-- the places where the lines of a text begin
unfoldable pub line_starts : List ℕ → List ℕ
line_starts s = starts_from 0 (lines s)

-- the line that begins at place a
unfoldable pub line_from : List ℕ → ℕ → List ℕ
line_from s a = take (find_from s a 10 - a) (drop a s)
