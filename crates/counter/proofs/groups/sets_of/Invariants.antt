-- `sets_of`: the steps that are left settle what is asked of each event.
use Prim.Native.Nat.{◌-◌}
use Rattle.counter.proofs.GroupLaws.{Settling}
use Rattle.counter.proofs.groups.sets_of.Given as goal

abbrev pub invariant-loop : goal.invariant-loop
invariant-loop l = Settling l.plan l.n l.group l.taken (l.end - l.counter) l.at l.sets
