-- `is_parent`: no parent, or a name.
use Rattle.gates.specs.Kinds.{is_parent}
use Rattle.gatefields.proofs.fields.is_parent.Goals as goal

pub returns : goal.returns
unfolding is_parent
returns c = rw (c.is_none.ensures, c.is_name.ensures)
