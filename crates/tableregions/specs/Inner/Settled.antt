-- What refusals 1 to 16 leave of a table that is read through the places of its lines: what the compiler writes from.
use Rattle.std.specs.Prelude.{◌≡◌, true, List, ℕ, ◌<◌, ◌≤◌, length}
use Rattle.gates.specs.Rules.{no_refusal}
use Rattle.gates.specs.Refusal.{line_refusal}
use Rattle.gates.specs.Gate.{regions}
use Rattle.tables.specs.Head.{dimensions}
use Rattle.tables.specs.Refusals.{living}
use Rattle.resolve.specs.Inner.Reading.{fields_at, gates_at}

-- of n gates
pub record Settled (text starts : List ℕ) (n : ℕ) : Type 0 where
  -- at most 8 dimensions and 64 regions
  pub narrow : length (dimensions text) ≤ 8
  pub few : length (regions (gates_at text starts n)) ≤ 64
  -- each line passes 4 to 12
  pub good : (i : ℕ) → i < n → line_refusal (dimensions text) (fields_at text starts i) ≡ no_refusal
  -- each reference names a region
  pub alive : (i : ℕ) → i < n → living (gates_at text starts n) i ≡ true
