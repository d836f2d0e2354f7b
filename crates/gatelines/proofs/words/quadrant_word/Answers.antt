-- `quadrant_word`: a dimension, its least value or its greatest, by the place among three.
use mir.Syntax.{w32}
use mir.ValLaws.{to_z-of_z}
use native.Mathlib.Omega.{arith}
use mathlib.Core.Path.{◌≡◌}
use Prim.Native.Nat.{◌/◌, ◌%◌, min}
use borrow.Author.Tests.{eq-eqb, ne_eqb}
use Rattle.text.specs.Lines.{fields}
use Rattle.gates.specs.Kinds.{field_at}
use Rattle.gates.specs.Encoding.{quadrant_word}
use Rattle.gates.proofs.QuadLaws.{count_small}
use Rattle.gatelines.proofs.words.quadrant_word.Goals as goal

pub returns-then-i-eq0 : goal.returns-then-i-eq0
unfolding quadrant_word
returns-then-i-eq0 c =
    let args = c.args in
    let i = args.i in
    let e : min (i / 3) 3 ≡ i / 3 = omega (arith, c.requires.2, count_small (field_at (fields args.line.now) 3)) in
    rw (
      eq-eqb (i % 3) 0 c.if-i-eq0.true,
      to_z-of_z w32 _ (record { sfits = c.dimension_word.type_inv }),
      c.dimension_word.ensures,
      c.field.ensures,
      c.divider_at.ensures.0,
      e,
    )

pub returns-then-i-eq1 : goal.returns-then-i-eq1
unfolding quadrant_word
returns-then-i-eq1 c =
    let args = c.args in
    rw (
      ne_eqb (args.i % 3) 0 c.if-i-eq0.false,
      eq-eqb (args.i % 3) 1 c.if-i-eq1.true,
      to_z-of_z w32 _ (record { sfits = c.quadrant_min.type_inv }),
      c.quadrant_min.ensures,
    )

pub returns : goal.returns
unfolding quadrant_word
returns c =
    let args = c.args in
    rw (
      ne_eqb (args.i % 3) 0 c.if-i-eq0.false,
      ne_eqb (args.i % 3) 1 c.if-i-eq1.false,
      to_z-of_z w32 _ (record { sfits = c.quadrant_max.type_inv }),
      c.quadrant_max.ensures,
    )
