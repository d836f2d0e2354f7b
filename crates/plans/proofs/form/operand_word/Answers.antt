-- `operand_word` is `operand_word`.
use Rattle.plans.specs.Form.{operand_word}
use Rattle.plans.proofs.form.operand_word.Goals as goal

pub returns : goal.returns
unfolding operand_word
returns c = rw (c.is_earlier.ensures, c.number_at.ensures)
