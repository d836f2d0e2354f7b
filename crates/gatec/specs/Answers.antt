-- Answers as numbers in a row: 01's number and place, then the tally.
use Rattle.std.specs.Prelude.{List, [], ◌∷◌, ◌++◌, ℕ}
use Rattle.plans.specs.Refusals.{Verdict}
use Rattle.counter.specs.Counting.{Counting}

abbrev pub check_row : Verdict → List ℕ
check_row v = v.number ∷ v.place ∷ []

abbrev pub count_row : Counting → List ℕ
count_row c = c.verdict.number ∷ c.verdict.place ∷ c.tally.taken ∷ c.tally.spoilt ∷ (c.tally.counts ++ (c.tally.unclaimed ∷ []))
