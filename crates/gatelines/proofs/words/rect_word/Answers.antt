-- `rect_word`: dimension, min, max per dimension.
use Prim.Native.Nat.{◌%◌}
use mir.Syntax.{w32}
use mir.ValLaws.{to_z-of_z}
use borrow.Author.Tests.{eq-eqb, ne_eqb}
use Rattle.gates.specs.Encoding.{rect_word}
use Rattle.gatelines.proofs.LineLaws.{fields-length}
use borrow.Author.Rules.{rules}
use Rattle.gatelines.proofs.words.rect_word.Goals as goal

pub overflow_add-i : goal.overflow_add-i
overflow_add-i c =
    let h = fields-length c.args.line.now in
    let g = c.requires.1 in
    search rules

pub returns-then-i-eq0 : goal.returns-then-i-eq0
unfolding rect_word
returns-then-i-eq0 c =
    let i = c.args.i in
    rw (eq-eqb (i % 3) 0 c.if-i-eq0.true, to_z-of_z w32 _ (record { sfits = c.dimension_word.type_inv }), c.dimension_word.ensures, c.field-x.ensures)

pub returns-then-i-eq1 : goal.returns-then-i-eq1
unfolding rect_word
returns-then-i-eq1 c =
    let i = c.args.i in
    rw (
      ne_eqb (i % 3) 0 c.if-i-eq0.false,
      eq-eqb (i % 3) 1 c.if-i-eq1.true,
      to_z-of_z w32 _ (record { sfits = c.min_word.type_inv }),
      c.min_word.ensures,
      c.field-x.ensures,
    )

pub returns : goal.returns
unfolding rect_word
returns c =
    let i = c.args.i in
    rw (
      ne_eqb (i % 3) 0 c.if-i-eq0.false,
      ne_eqb (i % 3) 1 c.if-i-eq1.false,
      to_z-of_z w32 _ (record { sfits = c.max_word.type_inv }),
      c.max_word.ensures,
      c.field-x.ensures,
    )
