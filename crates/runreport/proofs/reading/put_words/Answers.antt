-- `put_words`: the m words of the lines before `at` are written over the beginning.
use mathlib.Core.Path.{◌∙◌, ap}
use native.Mathlib.Omega.{arith}
use lib.ListN.{length}
use Rattle.text.proofs.LinesLaws.{find_from_lem, found_inside}
use Rattle.text.proofs.OutputLaws.{over-length}
use Rattle.text.proofs.FilledLaws.{filled_none, few_more, filled_more, filled_all, all_written}
use Rattle.runreport.specs.PlanReading.{line_words, words_of}
use Rattle.runreport.proofs.LineLaws.{line_words-few, words_are}
use Rattle.runreport.proofs.reading.put_words.Goals as goal

pub loop-at-init : goal.loop-at-init
loop-at-init c = filled_none _ _ _ _ (words_are _)

pub overflow_add-at : goal.overflow_add-at
overflow_add-at c =
    omega (arith, found_inside c.args.part.now c.loop-at.at 10 c.find-at.ensures (omega arith))

pub overflow_add-m : goal.overflow_add-m
overflow_add-m c =
    let a = c.args in
    omega (
      arith,
      few_more line_words (words_of a.part.now) a.part.now a.plan.now c.loop-at.at c.loop-at.m c.loop-at.invariant
          c.loop-at-test.true (line_words-few _) (rw c.line_from.ensures at c.put_line_from-c.ensures.0),
      found_inside a.part.now c.loop-at.at 10 c.find-at.ensures (omega arith),
    )

pub loop-at-smaller : goal.loop-at-smaller
loop-at-smaller c =
    omega (arith, find_from_lem c.args.part.now c.loop-at.at 10)

pub loop-at-preserved : goal.loop-at-preserved
loop-at-preserved c =
    filled_more _ _ _ _ c.loop-at.at c.loop-at.m c.loop-at.invariant c.loop-at-test.true (line_words-few _)
    (rw c.line_from.ensures at c.put_line_from-c.ensures.0)
    _ c.find-at.ensures _ (rw c.line_from.ensures at c.put_line_from-c.ensures.1)

pub shape_of-plan : goal.shape_of-plan
shape_of-plan c = ap length c.loop-at.invariant.written ∙ over-length _ _

pub returns : goal.returns
returns c = (
  (
    filled_all _ _ _ _ c.loop-at.at c.loop-at.m c.loop-at.invariant c.loop-at-test.false,
    all_written _ _ _ _ c.loop-at.at c.loop-at.m c.loop-at.invariant c.loop-at-test.false,
  ),
  omega (arith, c.loop-at.invariant.few, c.loop-at.invariant.inside),
)
