-- `put_header` meets its contract: four words, each at its index.
use mathlib.Core.Path.{refl}
use native.Mathlib.Omega.{arith}
use mir.Syntax.{w32}
use mir.ValLaws.{to_z_pos, to_z-of_z}
use Rattle.writer.specs.Inner.Words.{header}
use Rattle.writer.proofs.WordLaws.{four-words}
use Rattle.writer.proofs.put_header.Goals as goal

pub returns : goal.returns
unfolding header
returns c =
    let a = c.args in (
      refl,
      rw (
        c.put-4.ensures,
        to_z-of_z w32 _ (record { sfits = c.number_word-2.type_inv }),
        c.number_word-2.ensures,
        c.put-3.ensures,
        to_z-of_z w32 _ (record { sfits = c.parent_word.type_inv }),
        c.parent_word.ensures,
        c.put-2.ensures,
        to_z-of_z w32 _ (record { sfits = c.number_word.type_inv }),
        c.number_word.ensures,
        c.put.ensures,
        to_z_pos w32 a.kind (omega arith),
      ) (four-words _ _ _ _ _),
    )
