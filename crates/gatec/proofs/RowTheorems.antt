-- Where `out` has its declared length, it is the row afterwards, whatever it held before.
use mathlib.Core.Path.{◌≡◌, refl}
use mathlib.Core.Bool.{Bool, true, false, cond}
use mathlib.Core.List.{List, [], ◌∷◌}
use Prim.Native.Nat.{ℕ, ◌/◌, ◌%◌}
use native.Mathlib.Omega.{arith}
use lib.Dec.{eqb}
use lib.IntN.{ℤ}
use lib.ListN.{length, length-append}
use lib.Seq.{sets}
use Rattle.plans.specs.Refusals.{Verdict, passed, refused}
use Rattle.plans.specs.Form.{width, check_of}
use Rattle.plans.proofs.RowLaws.{row-whole}
use Rattle.counter.specs.Counting.{Counting, tally_of, no_tally, count_passed, count_for, count_of}
use Rattle.counter.proofs.TallyLaws.{counts-long}
use Rattle.gatec.specs.Answers.{check_row, count_row}

pub check_whole : (v : Verdict) (o : List ℕ) → length o ≡ 2 → sets o 0 (check_row v) ≡ check_row v
check_whole v o h = row-whole (check_row v) o h

-- a tally has 64 counts
pub count_long : (p events : List ℤ) → length (count_of p events).tally.counts ≡ 64
unfolding count_for count_passed no_tally
count_long p events = go (eqb (check_of p).number 0) (eqb (length events % width p) 0)
  where
    counted : Counting
    counted = record { verdict = passed; tally = tally_of p events (length events / width p) }

    ragged : Counting
    ragged = record { verdict = refused 23 (length events); tally = no_tally }

    malformed : Counting
    malformed = record { verdict = check_of p; tally = no_tally }

    go : (a b : Bool) → length (cond a (cond b counted ragged) malformed).tally.counts ≡ 64
    go true true = counts-long p events (length events / width p)
    go true false = refl
    go false b = refl

pub count-whole : (p events : List ℤ) (o : List ℕ) → length o ≡ 69 → sets o 0 (count_row (count_of p events)) ≡ count_row (count_of p events)
count-whole p events o h =
    let n = count_long p events in
    let m = length-append (count_of p events).tally.counts ((count_of p events).tally.unclaimed ∷ []) in
    row-whole (count_row (count_of p events)) o (omega arith)
