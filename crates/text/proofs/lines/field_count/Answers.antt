-- `field_count`: n and the fields of the rest from i on are the line's fields and one.
use native.Mathlib.Omega.{arith}
use Rattle.text.proofs.LinesLaws.{count-tab, count-other, count_end}
use Rattle.text.proofs.lines.field_count.Goals as goal
use Rattle.text.proofs.lines.field_count.Goals.{then-line-i-eq9, else-line-i-eq9}

pub loop-i-preserved : goal.loop-i-preserved
loop-i-preserved c =
    let s = c.args.line.now in
    let t = c.loop-i-test.true in
    elim c.if-line-i-eq9.branch [
      | then-line-i-eq9 w ↦ omega (arith, count-tab s c.loop-i.i t w.if-line-i-eq9.true)
      | else-line-i-eq9 w ↦ omega (arith, count-other s c.loop-i.i t w.if-line-i-eq9.false)
    ]

pub returns : goal.returns
returns c = omega (arith, count_end c.args.line.now c.loop-i.i c.loop-i-test.false)
