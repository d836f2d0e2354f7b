-- `in_none`: rest has the events taken that are in none of the sets before the q-th.
use Rattle.counter.specs.Inner.Groups.{Those, in_none}
use Rattle.counter.proofs.groups.in_none.Given as goal

abbrev pub invariant-loop-q : goal.invariant-loop-q
invariant-loop-q l = Those l.taken (in_none l.sets l.q) l.rest
