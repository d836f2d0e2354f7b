-- `put_plan`: the refusal of the plan.
use Rattle.runreport.proofs.RunLaws.{plan-refused}
use Rattle.runreport.proofs.put_plan.Goals as goal

pub returns-in-Err : goal.returns-in-Err
returns-in-Err c = rw (plan-refused c.args.plan.now c.check.ensures c.in-Err.refusal c.in-Err.is) c.put_refusal.ensures
