-- `count_group`: the tally is that of the events before the e-th of the group.
use mathlib.Core.Path.{◌≡◌}
use Prim.Native.Nat.{◌+◌}
use Rattle.counter.specs.Counting.{tally_of}
use Rattle.counter.proofs.groups.count_group.Given as goal

abbrev pub invariant-loop-e : goal.invariant-loop-e
invariant-loop-e l = l.t ≡ tally_of l.plan l.events (l.j + l.e)
