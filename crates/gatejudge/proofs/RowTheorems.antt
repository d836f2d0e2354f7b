-- Where `out` has its declared length, it is the row afterwards, whatever it held before.
use mathlib.Core.Path.{◌≡◌}
use mathlib.Core.List.{List}
use Prim.Native.Nat.{ℕ}
use lib.ListN.{length}
use lib.Seq.{sets}
use Rattle.plans.proofs.RowLaws.{row-whole}
use Rattle.counter.specs.Judging.{Judgement}
use Rattle.gatejudge.specs.Answers.{judge_row}

pub judge_whole : (j : Judgement) (o : List ℕ) → length o ≡ 4 → sets o 0 (judge_row j) ≡ judge_row j
judge_whole j o h = row-whole (judge_row j) o h
