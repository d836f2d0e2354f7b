-- `name_count`: the fields of the head line but the first.
use Rattle.gatefields.proofs.FieldLaws.{some_field}
use Rattle.gatefields.proofs.fields.name_count.Goals as goal

pub overflow_sub-result : goal.overflow_sub-result
overflow_sub-result c = rw c.field_count.ensures (some_field _)
