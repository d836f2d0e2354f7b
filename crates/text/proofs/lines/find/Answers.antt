-- `find`: the place from a on is the place from i on.
use Rattle.std.proofs.Common.{sym, ◌∙◌, ◌≡◌, arith}
use Rattle.text.proofs.LinesLaws.{find_here, find_goes_on, find_end}
use Rattle.text.proofs.lines.find.Goals as goal

pub returns-then-s-i : goal.returns-then-s-i
returns-then-s-i c = sym (c.loop-i.invariant.1 ∙ find_here _ _ _ c.loop-i-test.true c.if-s-i.true)

pub loop-i-preserved : goal.loop-i-preserved
loop-i-preserved c = (omega arith, c.loop-i.invariant.1 ∙ find_goes_on _ _ _ c.loop-i-test.true c.if-s-i.false)

pub returns : goal.returns
returns c =
    let end : c.max.result ≡ c.loop-i.i = omega arith in
    end ∙ sym (c.loop-i.invariant.1 ∙ find_end _ _ _ (omega arith))
