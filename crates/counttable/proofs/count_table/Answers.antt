-- `count_table`: by the words that compiling reported, or nothing; a wrong column line or a ragged list is refused where the table is not.
use mathlib.Core.Path.{sym, ap, ◌∙◌}
use lib.Seq.{length-take-le}
use Rattle.std.proofs.lemmas.Result.{err_from_is_err_and}
use Rattle.heads.specs.Answers.{columns_said}
use Rattle.compiler.proofs.PlanLaws.{dims-read}
use Rattle.counttable.proofs.CountLaws.{right-not, right-said, never, refused-first, columns-wrong, list-ragged}
use Rattle.counttable.proofs.CountLaws.{words_inside, counted-well, counted_by_lem, counted-not}
use Rattle.counttable.proofs.count_table.Goals.{then-is_err-via-then-is_err, then-is_err-via-else-is_err+then-is_ragged}
use Rattle.counttable.proofs.count_table.Goals as goal

pub returns-in_err-table_verdict : goal.returns-in_err-table_verdict
returns-in_err-table_verdict c =
    let a = c.args in
    let p = err_from_is_err_and c.from_residual.result c.from_residual.ensures.1 in
    let v = c.in_err-table_verdict.ensures in
    rw (p.1, p.2) (refused-first a.table.now a.columns.now a.plan.now a.events.now v.verdict v.accepted)

pub returns-in_err-tested : goal.returns-in_err-tested
returns-in_err-tested c =
    let a = c.args in
    let p = err_from_is_err_and c.from_residual-in_err-tested.result c.from_residual-in_err-tested.ensures.1 in
    let said = ap columns_said (sym c.in_err-tested.was) ∙ c.test_columns-tested.ensures in
    rw (p.1, p.2) (columns-wrong a.table.now a.columns.now a.plan.now a.events.now c.in_ok-table_verdict.ensures.verdict said)

pub returns-then-is_err : goal.returns-then-is_err
returns-then-is_err c =
    let a = c.args in
    let said = ap columns_said (sym c.in_ok-tested.was) ∙ c.test_columns-tested.ensures in
    elim c.then-is_err.branch [
      | then-is_err-via-then-is_err w ↦
          absurd (right-not c.test_columns-tested.result c.in_ok-tested.field-0 c.in_ok-tested.was (sym c.is_err.ensures.value ∙ w.if-is_err.true))
      | then-is_err-via-else-is_err+then-is_ragged w ↦
          list-ragged a.table.now a.columns.now a.plan.now a.events.now c.in_ok-table_verdict.ensures.verdict said
          (dims-read a.table.now w.head_line.ensures w.name_count.ensures) (sym w.if-is_ragged.true ∙ w.is_ragged.ensures)
    ]

pub returns-in_err-written : goal.returns-in_err-written
returns-in_err-written c =
    let a = c.args in
    let p = err_from_is_err_and c.from_residual-in_err-written.result c.from_residual-in_err-written.ensures.1 in
    rw (p.1, p.2) (counted-not a.table.now a.columns.now a.plan.now a.events.now c.in_err-written.ensures)

pub slice_bounds-count-end : goal.slice_bounds-count-end
slice_bounds-count-end c =
    let a = c.args in
    words_inside a.table.now a.columns.now a.plan.now a.events.now c.in_ok-written.ensures

pub slice_bounds-count-end-2 : goal.slice_bounds-count-end-2
slice_bounds-count-end-2 c =
    let a = c.args in
    sym (length-take-le _ _ (words_inside a.table.now a.columns.now a.plan.now a.events.now c.in_ok-written.ensures))

-- never: what compiling wrote is a plan that passes, and the events are complete
pub returns-in_err-tally : goal.returns-in_err-tally
returns-in_err-tally c =
    let a = c.args in
    let t = c.test_columns-tested in
    let right = sym (right-said t.result (sym c.is_err.ensures.value ∙ c.if-is_err.false)) ∙ t.ensures in
    let n = dims-read a.table.now c.head_line.ensures c.name_count.ensures in
    absurd (never c.in_err-tally.field-0.0 (counted-well a.table.now a.columns.now a.plan.now a.events.now c.in_ok-written.ensures
    right n (sym c.if-is_ragged.false ∙ c.is_ragged.ensures) c.in_err-tally.ensures))

pub returns : goal.returns
returns c =
    let a = c.args in
    let t = c.test_columns-tested in
    let right = sym (right-said t.result (sym c.is_err.ensures.value ∙ c.if-is_err.false)) ∙ t.ensures in
    let n = dims-read a.table.now c.head_line.ensures c.name_count.ensures in
    counted_by_lem a.table.now a.columns.now a.plan.now a.events.now c.in_ok-written.ensures
    right n (sym c.if-is_ragged.false ∙ c.is_ragged.ensures) c.in_ok-tally.ensures
