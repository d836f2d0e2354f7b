-- `passing_of`: rest has the events that are left to ask, found those asked that pass the test.
use mathlib.Core.Path.{◌≡◌}
use mathlib.Core.Bool.{Bool, true}
use Prim.Native.Nat.{ℕ, ◌<◌}
use Rattle.plans.specs.Bits.{has_bit}
use Rattle.std.specs.Fn.{FnReturnsAt}
use Rattle.counter.specs.Counting.{event_at}
use Rattle.counter.proofs.GroupLaws.{Asking}
use Rattle.counter.proofs.sets.passing_of.Given as goal

abbrev pub invariant-loop-rest : goal.invariant-loop-rest
invariant-loop-rest g l =
    ((e : ℕ) → e < 64 → has_bit l.rest e ≡ true → has_bit l.among e ≡ true)
    × ((holds : ℕ → Bool) → ((e : ℕ) (r : Bool) → FnReturnsAt g.F.Fn l.test (event_at l.n l.group e) r → r ≡ holds e) → Asking l.among holds l.rest l.found)

abbrev pub decreases-loop-rest : goal.decreases-loop-rest
decreases-loop-rest g l = l.rest
