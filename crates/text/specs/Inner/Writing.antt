-- A list written over another from an index on.
use Rattle.std.specs.Prelude.{◌≡◌, ℕ, List, ◌++◌, length, take, drop}
use Rattle.text.specs.Output.{over}

-- d with q written from index a on, as far as d goes
unfoldable pub over_from : {A : Type 0} → ℕ → List A → List A → List A
over_from a q d = take a d ++ over q (drop a d)

-- q is written from index a on, as far as the list goes, and r is its length
abbrev pub WritesFrom : {A : Type 0} → ℕ → List A → List A → List A → ℕ → Type 0
WritesFrom a q d d' r = (r ≡ length q) × (d' ≡ over_from a q d)
