-- `combines`: the number of the step's kind is 4 to 6.
use Rattle.plans.specs.Kinds.{spans}
use Rattle.gatefields.proofs.fields.combines.Goals as goal

pub returns : goal.returns
unfolding spans
returns c = rw (c.kind_number-n.ensures, c.step_kind.ensures)
