-- The numbers of each list's tally, one list behind the other.
use Rattle.std.specs.Prelude.{ℕ, ◌+◌, ◌*◌, List, [], ◌∷◌, ◌++◌, get_or}
use Rattle.text.specs.Bounded.{tab}
use Rattle.counter.specs.declared.Tally.{Tally}

-- the 67 numbers of a tally: the counts, the taken, the spoilt, the unclaimed
unfoldable pub numbers_of : Tally → List ℕ
numbers_of t = t.counts ++ (t.taken ∷ t.spoilt ∷ t.unclaimed ∷ [])

-- number r of each of the first k lists
unfoldable pub column_of : List ℕ → ℕ → ℕ → List ℕ
column_of columns k r = tab (λ j. get_or columns (j * 67 + r) 0) k
