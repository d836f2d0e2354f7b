-- `parent_number` meets its contract.
use Rattle.writer.specs.Inner.Words.{parent_number}
use Rattle.stepwriter.proofs.parent_number.Goals as goal

pub returns-then-is_none : goal.returns-then-is_none
unfolding parent_number
returns-then-is_none c = rw (← c.parent_field-name.ensures, ← c.is_none.ensures, c.if-is_none.true)

pub returns-else-is_none : goal.returns-else-is_none
unfolding parent_number
returns-else-is_none c = rw (← c.parent_field-name.ensures, ← c.is_none.ensures, c.if-is_none.false) c.number_of.ensures
