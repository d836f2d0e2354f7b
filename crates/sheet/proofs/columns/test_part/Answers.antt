-- `test_part`: the column lines before `at` are right, and `headed` says how the next line is read.
use native.Mathlib.Omega.{arith}
use Rattle.std.proofs.lemmas.Result.{err_from_is_err_and}
use Rattle.text.proofs.LinesLaws.{find_from_lem, found_inside}
use Rattle.sheet.proofs.ColumnLineLaws.{tested-none, tested-more, tested-wrong, tested-all}
use Rattle.sheet.proofs.columns.test_part.Goals as goal

pub loop-at-init : goal.loop-at-init
loop-at-init c = tested-none _ _

pub returns-in_err-test_line : goal.returns-in_err-test_line
returns-in_err-test_line c =
    let a = c.args in
    let p = err_from_is_err_and c.from_residual.result c.from_residual.ensures.1 in
    rw (p.1, p.2)
    (tested-wrong a.table.now a.part.now c.loop-at.at c.loop-at.headed c.loop-at.invariant c.loop-at-test.true
    (rw c.line_from-line.ensures at c.in_err-test_line.ensures))

pub overflow_add-at : goal.overflow_add-at
overflow_add-at c =
    omega (arith, found_inside c.args.part.now c.loop-at.at 10 c.find-at.ensures (omega arith))

pub loop-at-smaller : goal.loop-at-smaller
loop-at-smaller c =
    omega (arith, c.find-at.ensures, find_from_lem c.args.part.now c.loop-at.at 10)

pub loop-at-preserved : goal.loop-at-preserved
loop-at-preserved c =
    let a = c.args in
    rw (c.opens.ensures, c.line_from-line.ensures)
    (tested-more a.table.now a.part.now c.loop-at.at c.loop-at.headed c.loop-at.invariant c.loop-at-test.true
    (rw c.line_from-line.ensures at c.in_ok-test_line.ensures) c.find-at.ensures)

pub returns : goal.returns
returns c =
    let a = c.args in
    tested-all a.table.now a.part.now c.loop-at.at c.loop-at.headed c.loop-at.invariant c.loop-at-test.false
