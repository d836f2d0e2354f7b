-- Bounds of a tally's numbers.
use Rattle.std.specs.Prelude.{◌≡◌, ℕ, ◌≤◌, length, slice_index}
use Rattle.counter.specs.declared.Tally.{Tally}

-- 64 counts, and no number is more than e
pub record Within (e : ℕ) (t : Tally) : Type 0 where
  pub taken_most : t.taken ≤ e
  pub spoilt_most : t.spoilt ≤ e
  pub count_most : (r : ℕ) → slice_index t.counts r ≤ e
  pub long : length t.counts ≡ 64
  pub unclaimed_most : t.unclaimed ≤ e
