-- `plane_of`: the two dimensions.
use Rattle.counter.specs.Inner.Steps.{plane_of}
use Rattle.counter.proofs.steps.plane_of.Goals as goal

pub returns : goal.returns
unfolding plane_of
returns c = rw (c.number_in.ensures, c.number_in-2.ensures)
