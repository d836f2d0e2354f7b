-- `any_of`: found has the events that are in some operand before the i-th.
use Rattle.counter.proofs.GroupLaws.{any_none, any_next}
use Rattle.counter.proofs.sets.any_of.Goals as goal

pub loop-i-init : goal.loop-i-init
loop-i-init c = any_none c.args.sets.now c.args.body.now

pub loop-i-preserved : goal.loop-i-preserved
loop-i-preserved c = any_next c.args.sets.now c.args.body.now c.loop-i.i c.loop-i.invariant c.operand_of-found.ensures
