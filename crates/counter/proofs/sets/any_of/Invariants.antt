-- `any_of`: found has the events that are in some operand before the i-th.
use Rattle.counter.specs.Inner.Groups.{SetOf, any_at}
use Rattle.counter.proofs.sets.any_of.Given as goal

abbrev pub invariant-loop-i : goal.invariant-loop-i
invariant-loop-i l = SetOf (any_at l.sets l.body l.i) l.found
