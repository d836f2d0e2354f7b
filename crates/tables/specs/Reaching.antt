-- What a gate refers to and reaches.
use Rattle.std.specs.Prelude.{Bool, ◌&&◌, ◌||◌, List, ℕ, zero, suc, length}
use Rattle.text.specs.Bytes.{same}
use Rattle.gates.specs.Gate.{Name, Gate, gate_regions}
use Rattle.tables.specs.Table.{some_of, nth_gate, names, gate_references}

-- ---- referring

-- the name is in the list
unfoldable pub is_in : List Name → Name → Bool
is_in l n = some_of (same n) l

-- g refers to h: it names a region of h (01: "A quadrant gate refers through its parent for all its quadrants, and whoever names a quadrant refers
-- to its gate")
unfoldable pub refers_to : Gate → Gate → Bool
refers_to g h = some_of (is_in (names (gate_regions h))) (gate_references g)

-- ---- reaching, over gates by number: a gate reaches what it refers to, and what that reaches (specs/Further/Reaching says it so)

unfoldable pub refers_at : List Gate → ℕ → ℕ → Bool
refers_at t i j = refers_to (nth_gate t i) (nth_gate t j)

-- a reaches b by way of numbers below s; a loop over s from 0 that puts row s into each row with bit s keeps these as its rows (`row_next` in proofs/)
unfoldable pub reaches_by : (ℕ → ℕ → Bool) → ℕ → ℕ → ℕ → Bool
reaches_by edge zero a b = edge a b
reaches_by edge (suc s) a b = reaches_by edge s a b || (reaches_by edge s a s && reaches_by edge s s b)

-- gate i reaches itself
unfoldable pub reaches_itself : List Gate → ℕ → Bool
reaches_itself t i = reaches_by (refers_at t) (length t) i i
