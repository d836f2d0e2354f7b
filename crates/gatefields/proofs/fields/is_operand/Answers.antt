-- `is_operand`: whether what stands behind `!` is a name.
use Rattle.gates.specs.Kinds.{is_operand}
use Rattle.gatefields.proofs.fields.is_operand.Goals as goal

pub returns : goal.returns
unfolding is_operand
returns c = rw (c.is_name.ensures, c.operand_name.ensures)
