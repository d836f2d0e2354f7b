-- `space_of`: the three dimensions.
use Rattle.counter.specs.Inner.Steps.{space_of}
use Rattle.counter.proofs.steps.space_of.Goals as goal

pub returns : goal.returns
unfolding space_of
returns c = rw (c.number_in.ensures, c.number_in-2.ensures, c.number_in-3.ensures)
