-- `decimal_word`: dimensions and means as in any plane, then thousandths.
use native.Mathlib.Omega.{arith}
use Prim.Native.Nat.{◌<◌, ◌≤◌}
use mir.Syntax.{w32}
use mir.ValLaws.{to_z-of_z}
use borrow.Author.Tests.{lt-ltb, le-ltb}
use Rattle.gates.specs.Encoding.{decimal_word}
use Rattle.gatelines.proofs.LineLaws.{fields-length}
use borrow.Author.Rules.{rules}
use Rattle.gatelines.proofs.words.decimal_word.Goals as goal

pub returns-then-i-lt4 : goal.returns-then-i-lt4
unfolding decimal_word
returns-then-i-lt4 c =
    let i = c.args.i in
    let h : i < 4 = omega (arith, c.if-i-lt4.true) in
    rw (lt-ltb i 4 h, to_z-of_z w32 _ (record { sfits = c.axes_word.type_inv }), c.axes_word.ensures)

pub overflow_add-i : goal.overflow_add-i
overflow_add-i c =
    let h = fields-length c.args.line.now in
    let g = c.requires.1 in
    search rules

pub returns : goal.returns
unfolding decimal_word
returns c =
    let i = c.args.i in
    let h : 4 ≤ i = omega (arith, c.if-i-lt4.false) in
    rw (le-ltb i 4 h, to_z-of_z w32 _ (record { sfits = c.thousandths_of.type_inv }), c.thousandths_of.ensures, c.field.ensures)
