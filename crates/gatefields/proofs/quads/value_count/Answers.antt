-- `value_count`: the digit of the field after the dimension of the divider.
use Rattle.gatefields.proofs.quads.value_count.Goals as goal

pub returns : goal.returns
returns c = (rw (c.count_of.ensures.0, c.field.ensures, c.divider_at.ensures.0), c.count_of.ensures.1)
