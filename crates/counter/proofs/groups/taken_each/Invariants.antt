-- `taken_each`: all has the events taken of those before the e-th.
use Rattle.counter.specs.Counting.{taken_at}
use Rattle.counter.specs.Inner.Groups.{SetOf, first_of}
use Rattle.counter.proofs.groups.taken_each.Given as goal

abbrev pub invariant-loop-e : goal.invariant-loop-e
invariant-loop-e l = SetOf (first_of (taken_at l.n l.group) l.e) l.all
