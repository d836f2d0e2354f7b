-- Regions whose lines are short.
use Rattle.std.specs.Prelude.{List, ℕ, ◌<◌, ◌≤◌, length}
use Rattle.gates.specs.Gate.{Region}
use Rattle.tables.specs.Table.{nth_region}

-- the first m names have at most 16 bytes
abbrev pub Short : List Region → ℕ → Type 0
Short rs m = (k : ℕ) → k < m → length (nth_region rs k).name ≤ 16

-- the first m regions, at most 64
abbrev pub Printable : List Region → ℕ → Type 0
Printable rs m = (m ≤ 64) × (m ≤ length rs) × Short rs m
