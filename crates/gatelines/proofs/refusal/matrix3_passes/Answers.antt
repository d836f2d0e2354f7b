-- `matrix3_passes`: the six entries are those of the fields.
use mir.Syntax.{w32}
use mir.ValLaws.{to_z-of_z}
use Rattle.gatelines.proofs.refusal.matrix3_passes.Goals as goal

pub returns : goal.returns
returns c =
    rw (
      c.matrix3_good.ensures,
      to_z-of_z w32 _ (record { sfits = c.value_of.type_inv }),
      to_z-of_z w32 _ (record { sfits = c.value_of-2.type_inv }),
      to_z-of_z w32 _ (record { sfits = c.value_of-3.type_inv }),
      to_z-of_z w32 _ (record { sfits = c.value_of-4.type_inv }),
      to_z-of_z w32 _ (record { sfits = c.value_of-5.type_inv }),
      to_z-of_z w32 _ (record { sfits = c.value_of-6.type_inv }),
      c.value_of.ensures,
      c.value_of-2.ensures,
      c.value_of-3.ensures,
      c.value_of-4.ensures,
      c.value_of-5.ensures,
      c.value_of-6.ensures,
      c.field.ensures,
      c.field-2.ensures,
      c.field-3.ensures,
      c.field-4.ensures,
      c.field-5.ensures,
      c.field-6.ensures,
    )
