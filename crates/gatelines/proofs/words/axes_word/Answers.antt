-- `axes_word`: so many dimensions, then numbers.
use mir.Syntax.{w32}
use mir.ValLaws.{to_z-of_z}
use borrow.Author.Tests.{lt-ltb, le-ltb}
use Rattle.gates.specs.Encoding.{axes_word}
use Rattle.gatelines.proofs.LineLaws.{fields-length}
use borrow.Author.Rules.{rules}
use Rattle.gatelines.proofs.words.axes_word.Goals as goal

pub overflow_add-i : goal.overflow_add-i
overflow_add-i c = let h = fields-length c.args.line.now in let g = c.requires.1 in search rules

pub returns-then-i-many : goal.returns-then-i-many
unfolding axes_word
returns-then-i-many c =
    let a = c.args in
    let word = c.dimension_word in
    rw (lt-ltb a.i a.many c.if-i-many.true, to_z-of_z w32 _ (record { sfits = word.type_inv }), word.ensures, c.field-x.ensures)

pub returns : goal.returns
unfolding axes_word
returns c =
    let a = c.args in
    rw (le-ltb a.i a.many c.if-i-many.false, to_z-of_z w32 _ (record { sfits = c.value_of.type_inv }), c.value_of.ensures, c.field-x.ensures)
