-- `divider_count`: the digit of field 3.
use Rattle.gatefields.proofs.quads.divider_count.Goals as goal

pub returns : goal.returns
returns c = (rw (c.count_of.ensures.0, c.field.ensures), c.count_of.ensures.1)
