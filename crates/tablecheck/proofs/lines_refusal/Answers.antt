-- `lines_refusal` meets its contract: a cursor over the gate lines, none before it refused.
use Rattle.std.proofs.Common.{◌≡◌, ℕ, ◌+◌, ◌-◌, subst, rules, arith}
use Rattle.text.proofs.LinesLaws.{find_from_lem, find_inside}
use Rattle.tablecheck.proofs.CursorLaws.{Cursor, cursor_first, cursor_next, line_refused, lines_good, lines-passed}
use Rattle.tablecheck.proofs.lines_refusal.Goals as goal

pub overflow_add-at : goal.overflow_add-at
overflow_add-at c =
    let good = c.well_formed in
    let found = c.find-at.ensures in
    let inside = find_inside c.args.text.now 0 10 (omega arith) in
    omega arith

pub loop-at-init : goal.loop-at-init
loop-at-init c = (search rules, cursor_first c.args.text.now c.find-at.ensures)

pub returns-in-Err : goal.returns-in-Err
returns-in-Err c =
    let head = c.loop-at in
    let low = head.invariant.0 in
    let z : head.line - 2 + 2 ≡ head.line = omega arith in
    λ v. rw z at (line_refused c.args.text.now head.invariant.1 c.loop-at-test.true c.head_line-head.ensures c.line_from.ensures c.line_refusal.result
    c.line_refusal.ensures c.in-Err.is v)

pub overflow_add-at-in-loop-at : goal.overflow_add-at-in-loop-at
overflow_add-at-in-loop-at c =
    let found = c.find-at-in-loop-at.ensures in
    let before_end = c.loop-at-test.true in
    let good = c.well_formed in
    let inside = find_inside c.args.text.now c.loop-at.at 10 (omega arith) in
    omega arith

pub overflow_add-line : goal.overflow_add-line
overflow_add-line c =
    let before_end = c.loop-at-test.true in
    let behind = c.loop-at.invariant.1.behind in
    let good = c.well_formed in
    omega arith

pub loop-at-smaller : goal.loop-at-smaller
loop-at-smaller c =
    let found = c.find-at-in-loop-at.ensures in
    let before_end = c.loop-at-test.true in
    let beyond = find_from_lem c.args.text.now c.loop-at.at 10 in
    omega arith

pub loop-at-preserved : goal.loop-at-preserved
loop-at-preserved c =
    let head = c.loop-at in
    let low = head.invariant.0 in
    let z : head.line - 2 + 1 ≡ head.line + 1 - 2 = omega arith in (
      search rules,
      subst (λ (i : ℕ). Cursor c.args.text.now (c.find-at-in-loop-at.result + 1) i) z
          (cursor_next c.args.text.now head.invariant.1 c.loop-at-test.true c.head_line-head.ensures c.line_from.ensures c.line_refusal.result
          c.line_refusal.ensures c.in_default.not-Err c.find-at-in-loop-at.ensures),
    )

pub names_refusal-requires : goal.names_refusal-requires
names_refusal-requires c = lines_good c.args.text.now c.loop-at.invariant.1 c.loop-at-test.false

pub returns : goal.returns
returns c = λ v. lines-passed c.args.text.now c.loop-at.invariant.1 c.loop-at-test.false v (c.names_refusal.ensures v)
