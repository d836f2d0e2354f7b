-- `taken_of`: taken has the events taken of those before the e-th.
use Prim.Native.Nat.{◌-◌, ◌≤◌}
use Rattle.counter.specs.Counting.{taken_at}
use Rattle.counter.specs.Inner.Groups.{SetOf, first_of}
use Rattle.counter.proofs.groups.taken_of.Given as goal

abbrev pub invariant-loop-e : goal.invariant-loop-e
invariant-loop-e l = (l.e ≤ l.g) × SetOf (first_of (taken_at l.n l.group) l.e) l.taken

abbrev pub decreases-loop-e : goal.decreases-loop-e
decreases-loop-e l = l.g - l.e
