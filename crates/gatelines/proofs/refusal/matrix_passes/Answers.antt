-- `matrix_passes`: only an ellipsoid, kind 8, and an ellipse, kind 3 or 7, have a matrix.
use mir.Syntax.{w32}
use mir.ValLaws.{to_z-of_z}
use mathlib.Core.Path.{refl}
use Rattle.gatelines.proofs.refusal.matrix_passes.Goals as goal

pub returns-then-becomes : goal.returns-then-becomes
returns-then-becomes c =
    rw (c.matrix3_passes.ensures, ← c.becomes.ensures, c.if-becomes.true) refl

pub returns-then-becomes-2 : goal.returns-then-becomes-2
returns-then-becomes-2 c =
    rw (
      c.matrix_good.ensures,
      to_z-of_z w32 _ (record { sfits = c.entry_of.type_inv }),
      to_z-of_z w32 _ (record { sfits = c.entry_of-then-becomes-2.type_inv }),
      to_z-of_z w32 _ (record { sfits = c.entry_of-then-becomes-2-2.type_inv }),
      c.entry_of-then-becomes-2-2.ensures,
      c.field-then-becomes-2-2.ensures,
      c.entry_of-then-becomes-2.ensures,
      c.field-then-becomes-2.ensures,
      c.entry_of.ensures,
      c.field.ensures,
      ← c.becomes.ensures,
      c.if-becomes.false,
      ← c.becomes-3.ensures,
      ← c.becomes-2.ensures,
      c.if-becomes-2.true,
    ) refl

pub returns : goal.returns
returns c =
    rw (← c.becomes.ensures, c.if-becomes.false, ← c.becomes-3.ensures, ← c.becomes-2.ensures, c.if-becomes-2.false)
