-- `all_of`: rest has the events that are in the operands before the i-th.
use Rattle.counter.proofs.GroupLaws.{all_none, all-next}
use Rattle.counter.proofs.sets.all_of.Goals as goal

pub loop-i-init : goal.loop-i-init
loop-i-init c = all_none c.args.sets.now c.args.body.now c.args.among

pub loop-i-preserved : goal.loop-i-preserved
loop-i-preserved c = all-next c.args.sets.now c.args.body.now c.loop-i.i c.loop-i.invariant c.operand_of-rest.ensures
