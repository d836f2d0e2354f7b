-- `kind_of`: the kind that the first field names, of an ellipse by its points.
use Rattle.gatefields.proofs.fields.kind_of.Goals as goal

pub returns : goal.returns
returns c = rw (c.kind_named.ensures, c.field.ensures, c.carries_point.ensures)
