-- What gate lines that are read through their places say of each other's names.
use Rattle.std.specs.Prelude.{◌≡◌, Bool, true, not, ◌||◌, cond, List, ℕ, ◌<◌, ltb, length, Option, Some, None}
use Rattle.plans.specs.Indices.{any}
use Rattle.tables.specs.Head.{dimensions, gate_lines}
use Rattle.tables.specs.Refusals.{line_good}
use Rattle.linenames.specs.Inner.LineNames.{own_different, shares_name, refers_line}
use Rattle.resolve.specs.Inner.Reading.{fields_at}

-- each gate line passes 4 to 12
abbrev pub GoodLines : List ℕ → Type 0
GoodLines text = (i : ℕ) → i < length (gate_lines text) → line_good (dimensions text) (gate_lines text) i ≡ true

-- gate i gives a name that gate j gives
unfoldable pub shares_at : List ℕ → List ℕ → ℕ → ℕ → Bool
shares_at text starts i j = shares_name (fields_at text starts i) (fields_at text starts j)

-- gate i gives a name twice, or one that an earlier gate gives
unfoldable pub repeats_at : List ℕ → List ℕ → ℕ → Bool
repeats_at text starts i = not (own_different (fields_at text starts i)) || any (shares_at text starts i) i

-- gate i refers to gate j
unfoldable pub refers_by : List ℕ → List ℕ → ℕ → ℕ → Bool
refers_by text starts i j = refers_line (fields_at text starts i) (fields_at text starts j)

-- the index, if it is below n
abbrev pub below : ℕ → ℕ → Option ℕ
below n i = cond (ltb i n) (Some i) None
