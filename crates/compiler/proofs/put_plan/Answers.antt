-- `put_plan` meets its contract: two numbers, and the steps over the rest that is lent.
use Rattle.compiler.proofs.PlanLaws.{plan-length, plan-put, dims-read}
use Rattle.resolve.proofs.NumberLaws.{total_is}
use Rattle.std.proofs.Common.{rules, ◌≡◌, length, min}
use native.Mathlib.Omega.{arith}
use Rattle.compiler.proofs.put_plan.Goals as goal

pub put_steps-requires : goal.put_steps-requires
put_steps-requires c = record { settled = c.requires; total = total_is _ _ _ c.requires.few c.region_total-total.ensures }

pub overflow_add-result : goal.overflow_add-result
overflow_add-result c = let p = c.put_steps.ensures.within in omega arith

pub returns : goal.returns
returns c =
    let steps = c.put_steps.ensures.writes in
    let pre = c.requires in
    let n = dims-read c.args.table.now.text.now c.head_line.ensures c.name_count.ensures in
    let t = total_is _ _ _ pre.few c.region_total-total.ensures in
    let b : c.min-b.result ≡ min 2 (length c.put_number-2.new.rest) = search rules in (
      plan-length _ _ pre.narrow pre.few steps.0,
      plan-put _ _ pre.narrow pre.few _ n c.put_number.ensures t c.put_number-2.ensures b steps.1,
    )
