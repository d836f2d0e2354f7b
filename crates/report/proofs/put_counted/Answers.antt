-- `put_counted`: the lines of the tally, or the refusal.
use Rattle.report.proofs.TableLaws.{counted_prints, counted-regions, refused_prints}
use Rattle.report.proofs.put_counted.Goals as goal

pub put_tally-requires : goal.put_tally-requires
put_tally-requires c =
    let a = c.args in
    counted-regions a.table.now a.columns.now a.plan.now a.values.now c.requires c.in-Ok.ensures.plan_after

pub returns-in-Ok : goal.returns-in-Ok
returns-in-Ok c =
    let a = c.args in
    rw (counted_prints a.table.now a.columns.now a.plan.now a.values.now c.requires c.in-Ok.ensures.plan_after) c.put_tally.ensures

pub returns-in-Err : goal.returns-in-Err
returns-in-Err c =
    let a = c.args in
    rw (refused_prints a.table.now a.columns.now a.plan.now a.values.now c.requires c.in-Err.ensures.plan_after) c.put_refusal.ensures
