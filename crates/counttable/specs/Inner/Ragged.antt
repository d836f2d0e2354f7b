-- Lists that are no whole number of events.
use Rattle.std.specs.Prelude.{Bool, false, not, cond, ℕ, ◌%◌, eqb}

-- m values, events of n; where an event has none, the table is refused
abbrev pub ragged : ℕ → ℕ → Bool
ragged n m = cond (eqb n 0) false (not (eqb (m % n) 0))
