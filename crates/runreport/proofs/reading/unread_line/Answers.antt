-- `unread_line`: the k lines before `at` are lines of words.
use mathlib.Core.Path.{◌∙◌}
use native.Mathlib.Omega.{arith}
use Rattle.text.proofs.LinesLaws.{find_from_lem, found_inside}
use Rattle.runreport.proofs.LineLaws.{unread_found, unread_open}
use Rattle.events.proofs.SearchLaws.{passed_none, passed-more}
use Rattle.runreport.proofs.reading.unread_line.Goals as goal

pub loop-at-init : goal.loop-at-init
loop-at-init c = passed_none _ _

pub returns-then-not-is_word_line : goal.returns-then-not-is_word_line
returns-then-not-is_word_line c =
    unread_found _ c.loop-at.at c.loop-at.k c.loop-at.invariant c.loop-at-test.true
    (rw (c.is_word_line.ensures, c.line_from.ensures) at c.if-not-is_word_line.true-raw)

pub overflow_add-at : goal.overflow_add-at
overflow_add-at c =
    omega (arith, found_inside c.args.part.now c.loop-at.at 10 c.find-at.ensures (omega arith))

pub loop-at-smaller : goal.loop-at-smaller
loop-at-smaller c =
    omega (arith, find_from_lem c.args.part.now c.loop-at.at 10)

pub loop-at-preserved : goal.loop-at-preserved
loop-at-preserved c =
    passed-more _ _ c.loop-at.at c.loop-at.k c.loop-at.invariant _ c.find-at.ensures c.loop-at-test.true
    (rw (c.is_word_line.ensures, c.line_from.ensures) at c.if-not-is_word_line.false-raw)

pub returns : goal.returns
returns c =
    c.then_some.ensures
    ∙ rw c.ends_in_lf.ensures (unread_open c.args.part.now c.loop-at.at c.loop-at.k c.loop-at.invariant c.loop-at-test.false)
