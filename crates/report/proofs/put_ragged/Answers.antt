-- `put_ragged`: the table's refusal, else that of the column line or 23 at the line.
use Rattle.report.proofs.TableLaws.{ragged_prints, table-first}
use Rattle.report.proofs.put_ragged.Goals as goal

pub returns-in-Ok : goal.returns-in-Ok
returns-in-Ok c = rw (ragged_prints c.args.table.now c.args.columns.now c.args.line c.in-Ok.ensures.verdict) c.put_bad_line.ensures

pub returns-in-Err : goal.returns-in-Err
returns-in-Err c =
    let v = c.in-Err.ensures in
    rw (table-first c.args.table.now c.args.columns.now c.args.line v.verdict v.accepted) c.put_refusal.ensures
