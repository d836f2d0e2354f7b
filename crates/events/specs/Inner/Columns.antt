-- The column lines from a place on.
use Rattle.std.specs.Prelude.{ℕ, Bool, cond, List, [], ◌∷◌, ltb, length, drop}
use Rattle.text.specs.Lines.{parts}
use Rattle.events.specs.Listing.{read_lines, columns_read}

-- the lines from place a on, with what stands behind the last LF; none behind the end
unfoldable pub pieces_from : List ℕ → ℕ → List (List ℕ)
pieces_from s a = cond (ltb (length s) a) [] (parts 10 ([] ∷ []) (drop a s))

-- the column lines among them, of which the first is one or not
unfoldable pub columns_from : Bool → Bool → List ℕ → ℕ → List (List ℕ)
columns_from several headed s a = columns_read (read_lines several headed (pieces_from s a))
