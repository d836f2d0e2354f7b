-- `is_unknown`: the kind of the line's steps is not known.
use Rattle.gatefields.proofs.fields.is_unknown.Goals as goal

pub returns : goal.returns
returns c = rw (c.is_known.ensures, c.step_kind.ensures)
