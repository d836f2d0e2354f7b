-- `dimension_of`: the place at which the search stops, without the head word, is the number of the dimension.
use Rattle.gatefields.proofs.FieldLaws.{found-behind, dimension-found}
use Rattle.gatefields.proofs.fields.dimension_of.Goals as goal

pub overflow_sub-result : goal.overflow_sub-result
overflow_sub-result c = rw c.find_field.ensures (found-behind _ _)

pub returns : goal.returns
returns c = rw c.find_field.ensures (dimension-found _ _)
