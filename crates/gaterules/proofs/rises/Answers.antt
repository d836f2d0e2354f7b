-- `rises`: the contracts of the calls, put together.
use mir.Syntax.{w32}
use mir.ValLaws.{to_z-of_z}
use Rattle.gates.specs.Rules.{uncrossed}
use Rattle.gaterules.proofs.rises.Goals as goal

pub returns : goal.returns
unfolding uncrossed
returns c =
    rw (
      to_z-of_z w32 _ (record { sfits = c.value_of.type_inv }),
      to_z-of_z w32 _ (record { sfits = c.value_of-2.type_inv }),
      c.value_of-2.ensures,
      c.value_of.ensures,
      c.is_number-2.ensures,
      c.is_number.ensures,
    )
