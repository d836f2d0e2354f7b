-- `in_none`: rest has the events taken that are in none of the sets before the q-th.
use Rattle.counter.proofs.GroupLaws.{in_none_start, in_none-next}
use Rattle.counter.proofs.groups.in_none.Goals as goal

pub loop-q-init : goal.loop-q-init
loop-q-init c = in_none_start c.args.sets.now c.args.taken

pub loop-q-preserved : goal.loop-q-preserved
loop-q-preserved c = in_none-next c.args.sets.now c.loop-q.q c.loop-q.invariant c.complement-rest.ensures
