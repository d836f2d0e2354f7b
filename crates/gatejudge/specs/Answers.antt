-- A judgement as numbers in a row: 01's number and place, the bits of the members, the outline bits.
use Rattle.std.specs.Prelude.{List, [], ◌∷◌, ℕ}
use Rattle.counter.specs.Judging.{Judgement}

abbrev pub judge_row : Judgement → List ℕ
judge_row j = j.verdict.number ∷ j.verdict.place ∷ j.bits ∷ j.outline ∷ []
