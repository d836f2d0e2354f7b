-- `round` meets its contract: rows below i are the new ones, those from i on the old.
use Rattle.std.proofs.Common.{◌≡◌, refl, sym, ◌∙◌, get_or, length, arith}
use Rattle.graph.proofs.RowLaws.{row_put, all_written}
use Rattle.graph.specs.Inner.Rows.{joined}
use Rattle.text.specs.Output.{over}
use Rattle.graph.proofs.round.Goals as goal
use Rattle.graph.proofs.round.Goals.{then-s-lt64, else-s-lt64}
use lib.ListN.{get_or-eq_default}

pub loop-i-init : goal.loop-i-init
unfolding over
loop-i-init c = refl

pub loop-i-preserved : goal.loop-i-preserved
loop-i-preserved c =
    let rows = c.args.rows.now in
    let long : length rows ≡ 64 = c.requires in
    let h = c.loop-i-test.true in
    let other : c.if-s-lt64.other ≡ get_or rows c.args.s 0 =
    elim c.if-s-lt64.branch [
      | then-s-lt64 w ↦ w.other-is
      | else-s-lt64 w ↦ let past = w.if-s-lt64.false in w.other-is ∙ sym (get_or-eq_default rows 0 (omega arith))
    ] in
    row_put rows c.loop-i.rows c.args.s c.loop-i.i _ _ (omega arith) c.loop-i.invariant other c.put_into.ensures

pub returns : goal.returns
returns c =
    let rows = c.args.rows.now in
    let long : length rows ≡ 64 = c.requires in
    let h = c.loop-i-test.false in
    let e : c.loop-i.i ≡ length rows = omega arith in
    c.loop-i.invariant ∙ rw e (all_written (joined rows c.args.s) rows)
