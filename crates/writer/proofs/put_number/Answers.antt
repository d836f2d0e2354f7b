-- `put_number`: one word, the number's.
use mir.Syntax.{w32}
use mir.ValLaws.{to_z-of_z}
use Rattle.writer.proofs.put_number.Goals as goal

pub returns : goal.returns
returns c =
    rw (c.put.ensures, to_z-of_z w32 _ (record { sfits = c.number_word.type_inv }), c.number_word.ensures)
