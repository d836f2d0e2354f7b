-- Counts raised by one event.
use Rattle.std.specs.Prelude.{Bool, cond, List, ℕ, ◌+◌, get_or}
use Rattle.counter.specs.Counting.{list_from}

-- the counts with one more for each region that passes a test
unfoldable pub bump_at : List ℕ → (ℕ → Bool) → ℕ → ℕ
bump_at counts test r = cond (test r) (get_or counts r 0 + 1) (get_or counts r 0)

unfoldable pub bumped : List ℕ → (ℕ → Bool) → List ℕ
bumped counts test = list_from (bump_at counts test) 0 64
