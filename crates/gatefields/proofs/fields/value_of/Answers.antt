-- `value_of` keeps what is read of a number.
use mir.Syntax.{w32}
use mir.ValLaws.{to_z-of_z}
use Rattle.gatefields.proofs.FieldLaws.{number-or-zero}
use Rattle.gatefields.proofs.fields.value_of.Goals as goal

pub returns : goal.returns
returns c = rw (to_z-of_z w32 _ (record { sfits = c.unwrap_or.type_inv }), c.unwrap_or.ensures, c.read_number.ensures) (number-or-zero c.args.x.now)
