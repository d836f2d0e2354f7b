-- Floats that know less than those of today: what they refuse they never count, and what passes there they count as today.
use mathlib.Core.Path.{◌≡◌}
use mathlib.Core.Bool.{true, false}
use mathlib.Core.List.{List}
use lib.IntN.{ℤ}
use Rattle.plans.specs.Refusals.{passed, refused}
use Rattle.plans.specs.Form.{Float, check_for, check_of}
use Rattle.plans.specs.NewWords.{lowest_new, holds_new}
use Rattle.plans.proofs.FloatTheorems.{KnowsLess, passes-today, new-refused, old-passes}
use Rattle.counter.specs.Counting.{no_tally, count_for, count_of}

module _ (f : Float) (less : KnowsLess f) (p events : List ℤ) where
  -- a plan that passes there
  pub counts-as-today : check_for f p ≡ passed → count_for f p events ≡ count_of p events
  unfolding count_for
  counts-as-today ok = rw (ok, passes-today f less p ok)

  -- a plan of today that holds something new: refused at its lowest new word, and a tally of zeros
  pub new-uncounted : check_of p ≡ passed → holds_new f p ≡ true → count_for f p events ≡ record { verdict = refused 22 (lowest_new f p); tally = no_tally }
  unfolding count_for
  new-uncounted ok new = rw (new-refused f less p ok new)

  -- one that holds nothing new
  pub old-counted : check_of p ≡ passed → holds_new f p ≡ false → count_for f p events ≡ count_of p events
  old-counted ok old = counts-as-today (old-passes f less p ok old)
