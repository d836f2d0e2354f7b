-- `put_operand`: one word, the operand's.
use mir.Syntax.{w32}
use mir.ValLaws.{to_z-of_z}
use Rattle.writer.proofs.put_operand.Goals as goal

pub returns : goal.returns
returns c =
    rw (c.put.ensures, to_z-of_z w32 _ (record { sfits = c.operand_word.type_inv }), c.operand_word.ensures)
