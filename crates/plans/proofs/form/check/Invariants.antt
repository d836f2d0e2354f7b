-- `check`: what is left of the plan, read from a place on, says what the check says.
use mathlib.Core.Path.{◌≡◌}
use Prim.Native.Nat.{◌≤◌, ◌-◌}
use lib.ListN.{length}
use Rattle.plans.specs.Form.{check_of}
use Rattle.plans.specs.Inner.Reader.{steps_form}
use Rattle.plans.proofs.form.check.Given as goal

abbrev pub invariant-loop : goal.invariant-loop
invariant-loop l = (l.at ≤ length l.plan) × (l.regions.count ≡ l.k)
    × (check_of l.plan ≡ steps_form (l.k - l.counter) l.plan l.n l.k l.regions.set l.at)
