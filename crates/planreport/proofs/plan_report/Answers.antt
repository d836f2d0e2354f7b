-- `plan_report`: what compiling into 4,096 words answered is printed.
use Rattle.std.proofs.Common.{refl, sym, ◌≡◌, length}
use lib.Seq.{length-take-le}
use Rattle.planreport.proofs.CompiledLaws.{plan-held, plan-printed, refusal-printed}
use Rattle.planreport.proofs.plan_report.Goals as goal

pub slice_bounds-plan-end : goal.slice_bounds-plan-end
slice_bounds-plan-end c =
    (plan-held c.args.table.now _ _ refl c.in-Ok.written c.in-Ok.ensures).0

pub slice_bounds-put_plan-end : goal.slice_bounds-put_plan-end
slice_bounds-put_plan-end c =
    sym (length-take-le _ c.compile.new.plan (plan-held c.args.table.now _ _ refl c.in-Ok.written c.in-Ok.ensures).0)

pub put_plan-requires : goal.put_plan-requires
put_plan-requires c =
    (plan-held c.args.table.now _ _ refl c.in-Ok.written c.in-Ok.ensures).1

pub returns-in-Ok : goal.returns-in-Ok
returns-in-Ok c =
    rw (plan-printed c.args.table.now _ _ refl c.in-Ok.written c.in-Ok.ensures) at c.put_plan.ensures

pub returns-in-Err : goal.returns-in-Err
returns-in-Err c =
    rw (refusal-printed c.args.table.now _ _ refl c.in-Err.refusal c.in-Err.ensures) at c.put_refusal.ensures
