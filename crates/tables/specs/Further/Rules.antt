-- Refusals 13 to 16 as what must not be: the rules that the gates of a table keep together. `passed-accepted` and `accepted-passed` in
-- proofs/Acceptance say that they are those refusals.
use Rattle.std.specs.Prelude.{List, [], ◌∷◌, ◌≤◌, length}
use Rattle.gates.specs.Gate.{Name, Gate, regions}
use Rattle.tables.specs.Table.{◌∈◌, given, names, gate_references}
use Rattle.tables.specs.Further.Reaching.{Refers, Reaches}

abbrev pub Distinct : List Name → Type 0
Distinct [] = Unit {0}
Distinct (n ∷ ns) = (n ∈ ns → ⊥) × Distinct ns

pub record Rules (t : List Gate) : Type 0 where
  -- at most 64 regions
  pub few : length (regions t) ≤ 64
  -- no gate or quadrant name is used before
  pub distinct : Distinct (given t)
  -- each reference names a region
  pub alive : (g : Gate) → g ∈ t → (n : Name) → n ∈ gate_references g → n ∈ names (regions t)
  -- no gate reaches itself
  pub no_circle : (g : Gate) → Reaches (Refers t) g g → ⊥
