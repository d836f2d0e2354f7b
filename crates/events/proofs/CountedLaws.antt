-- Counting the values of an input as they are kept is counting the values.
use mathlib.Core.Path.{◌≡◌}
use mathlib.Core.List.{List, map}
use native.Mathlib.Omega.{arith}
use lib.IntN.{ℤ, pos, negsuc}
use Rattle.text.specs.Numbers.{clamp}
use Rattle.text.proofs.NumbersLaws.{within-event, clamp-within}
use Rattle.plans.specs.Words.{on_scale}
use Rattle.counter.specs.Counting.{count_of}
use Rattle.counter.proofs.KeptLaws.{count_kept}

pub count_clamped : (p values : List ℤ) → count_of p (map clamp values) ≡ count_of p values
unfolding on_scale
count_clamped = count_kept clamp within-event (λ v w. clamp-within (negsuc 65535) (pos 65535) v (omega arith) (omega arith) w)
