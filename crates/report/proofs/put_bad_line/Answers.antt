-- `put_bad_line`: 31 at the first field that differs, else 23 at the line.
use Rattle.report.proofs.TableLaws.{tested}
use Rattle.report.proofs.put_bad_line.Goals as goal

pub returns-in-Ok : goal.returns-in-Ok
returns-in-Ok c = rw (tested c.args.table.now c.args.columns.now c.args.line c.in-Ok.ensures) c.put_refused.ensures

pub returns-in-Err : goal.returns-in-Err
returns-in-Err c = rw (tested c.args.table.now c.args.columns.now c.args.line c.in-Err.ensures) c.put_refusal.ensures
