-- `put_leaf` meets its contract: the first i words of the body are written over the beginning.
use mathlib.Core.Path.{◌≡◌, refl, sym, ◌∙◌, ap}
use native.Mathlib.Omega.{arith}
use borrow.Author.Rules.{rules}
use lib.ListN.{length, drop}
use mir.Syntax.{w32}
use mir.ValLaws.{to_z-of_z}
use Rattle.text.specs.Lines.{fields}
use Rattle.text.specs.Output.{over}
use Rattle.text.proofs.OutputLaws.{over-length}
use Rattle.text.proofs.BoundedLaws.{length-tab, tab-more}
use Rattle.gates.specs.Inner.Regions.{body_length, body_word_of}
use Rattle.writer.proofs.put_leaf.Goals as goal

pub loop-i-init : goal.loop-i-init
unfolding over
loop-i-init c = refl

pub loop-i-preserved : goal.loop-i-preserved
loop-i-preserved c =
    let a = c.args in
    rw (c.put.ensures, to_z-of_z w32 _ (record { sfits = c.word_of.type_inv }), c.word_of.ensures, c.loop-i.invariant)
    (tab-more (body_word_of (drop 1 (fields a.head.now)) (fields a.line.now) a.q) a.rest.now c.loop-i.i)

pub returns : goal.returns
returns c =
    let e : c.loop-i.i ≡ body_length (fields c.args.line.now) = omega arith in
    let a = c.args in
    (c.body_length-n.ensures ∙ sym (length-tab (body_word_of (drop 1 (fields a.head.now)) (fields a.line.now) a.q) _), rw (c.loop-i.invariant, e))
