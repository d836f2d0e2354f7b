-- `all_of`: rest has the events that are in the operands before the i-th.
use Rattle.counter.specs.Inner.Groups.{Those, all_at}
use Rattle.counter.proofs.sets.all_of.Given as goal

abbrev pub invariant-loop-i : goal.invariant-loop-i
invariant-loop-i l = Those l.among (all_at l.sets l.body l.i) l.rest
