-- `first_spoilt`: the values before the i-th are on the scale.
use mathlib.Core.Path.{◌≡◌}
use Prim.Native.Nat.{◌≤◌, ◌-◌}
use lib.ListN.{length}
use Rattle.plans.specs.Indices.{first_bad}
use Rattle.counter.specs.Judging.{value_good, first_spoilt}
use Rattle.counter.proofs.passing.first_spoilt.Given as goal

abbrev pub invariant-loop-i : goal.invariant-loop-i
invariant-loop-i l = (l.i ≤ length l.event) × (first_spoilt l.event ≡ first_bad (value_good l.event) l.i (length l.event - l.i))

abbrev pub decreases-loop-i : goal.decreases-loop-i
decreases-loop-i l = length l.event - l.i
