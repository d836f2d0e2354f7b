-- `count_lists`: the lists before `at` are counted and their numbers written.
use mathlib.Core.Path.{◌≡◌}
use Prim.Native.Nat.{ℕ, ◌-◌}
use lib.ListN.{length}
use Rattle.sheet.proofs.CountLaws.{Done}
use Rattle.sheet.proofs.counting.count_lists.Given as goal

abbrev pub invariant-loop-at : goal.invariant-loop-at
invariant-loop-at l =
    ((n : ℕ) × Done n l.plan l.input l.initial.columns l.at l.lists l.total l.columns) × (length l.list ≡ 32768)

abbrev pub decreases-loop-at : goal.decreases-loop-at
decreases-loop-at l = length l.input - l.at
