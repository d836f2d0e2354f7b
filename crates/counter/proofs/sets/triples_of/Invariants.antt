-- `triples_of`: rest has the events that are in the triples before the t-th.
use Rattle.counter.specs.Inner.Groups.{Those, triples_at}
use Rattle.counter.proofs.sets.triples_of.Given as goal

abbrev pub invariant-loop-t : goal.invariant-loop-t
invariant-loop-t l = Those l.among (triples_at l.n l.group l.body l.t) l.rest
