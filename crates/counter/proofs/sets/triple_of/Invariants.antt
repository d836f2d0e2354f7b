-- `triple_of`: found has those of the events before the e-th that the triple holds.
use Rattle.counter.specs.Inner.Groups.{SetOf, first_of, triple_at}
use Rattle.counter.proofs.sets.triple_of.Given as goal

abbrev pub invariant-loop-e : goal.invariant-loop-e
invariant-loop-e l = SetOf (first_of (triple_at l.n l.group l.body l.t) l.e) l.found
