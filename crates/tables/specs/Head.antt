-- Line 1 of a table, and its gate lines.
use Rattle.std.specs.Prelude.{Bool, ◌&&◌, ℕ, length, get_or, drop}
use mathlib.Core.List.{List, [], ◌∷◌, map, Permᴰ}
use Rattle.plans.specs.Kinds.{spans}
use Rattle.text.specs.Bytes.{bytes, same, every}
use Rattle.text.specs.Names.{is_name}
use Rattle.text.specs.Lines.{lines, fields, unlines}
use Rattle.gates.specs.Gate.{Name, Gate}
use Rattle.gates.specs.Meaning.{gate_of}
use Rattle.tables.specs.Table.{different}

-- ---- 01: "Line 1 is `dims` and 1 to 8 different names"

unfoldable pub head_fields : List ℕ → List (List ℕ)
head_fields text = fields (get_or (lines text) 0 [])

-- the dimensions, in head order
unfoldable pub dimensions : List ℕ → List Name
dimensions text = drop 1 (head_fields text)

unfoldable pub is_dims : List ℕ → Bool
is_dims field = same field (bytes "dims")

unfoldable pub head_good : List ℕ → Bool
head_good text =
    is_dims (get_or (head_fields text) 0 []) && (spans 1 8 (length (dimensions text)) && (every is_name (dimensions text) && different (dimensions text)))

-- ---- 01: "Each other line is one gate"

unfoldable pub gate_lines : List ℕ → List (List ℕ)
gate_lines text = drop 1 (lines text)

-- the gate of a line, over a head's dimensions
unfoldable pub line_gate : List Name → List ℕ → Gate
line_gate head line = gate_of head (fields line)

unfoldable pub gates : List ℕ → List Gate
gates text = map (line_gate (dimensions text)) (gate_lines text)

-- ---- another order of the gate lines (01: "an order puts each of them once, unaltered, after line 1")

abbrev pub LineOrder : List ℕ → List (List ℕ) → Type 0
LineOrder text ks = Permᴰ (gate_lines text) ks

-- the text with the gate lines ks
unfoldable pub reordered : List ℕ → List (List ℕ) → List ℕ
reordered text ks = unlines (get_or (lines text) 0 [] ∷ ks)
