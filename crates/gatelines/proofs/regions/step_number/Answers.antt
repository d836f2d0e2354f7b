-- `step_number`: the number of the kind of the line's steps.
use Rattle.gatelines.proofs.regions.step_number.Goals as goal

pub returns : goal.returns
returns c = rw (c.kind_number.ensures, c.step_kind.ensures, c.kind_of.ensures)
