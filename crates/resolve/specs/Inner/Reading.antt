-- The places where the lines of a text begin, and its gates, read through a list of such places. `gates-read` in proofs/ says that they are the table's.
use Rattle.std.specs.Prelude.{List, map, ℕ, ◌+◌, ◌-◌, length, get_or, replicate}
use Rattle.text.specs.Bounded.{tab}
use Rattle.text.specs.Lines.{lines, fields}
use Rattle.text.specs.Inner.Places.{line_starts, line_from}
use Rattle.text.specs.Output.{over}
use Rattle.gates.specs.Gate.{Gate, Region, regions}
use Rattle.tables.specs.Head.{dimensions, line_gate}

-- the places of the first 66 lines
unfoldable pub starts_of : List ℕ → List ℕ
starts_of text = over (line_starts text) (replicate 66 0)

-- how many gate lines there are
abbrev pub gate_count : List ℕ → ℕ
gate_count text = length (lines text) - 1

-- gate line i, whose place stands behind that of the head
unfoldable pub line_at : List ℕ → List ℕ → ℕ → List ℕ
line_at text starts i = line_from text (get_or starts (i + 1) 0)

-- its fields
unfoldable pub fields_at : List ℕ → List ℕ → ℕ → List (List ℕ)
fields_at text starts i = fields (line_at text starts i)

-- the first n gates
unfoldable pub gates_at : List ℕ → List ℕ → ℕ → List Gate
gates_at text starts n = map (line_gate (dimensions text)) (tab (line_at text starts) n)

-- their regions
abbrev pub regions_at : List ℕ → List ℕ → ℕ → List Region
regions_at text starts n = regions (gates_at text starts n)
