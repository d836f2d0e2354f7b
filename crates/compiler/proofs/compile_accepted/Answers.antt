-- `compile_accepted`: the plan written over the slice, its words and its regions.
use Rattle.resolve.proofs.NumberLaws.{total_is}
use Rattle.compiler.proofs.SettledLaws.{unrefused, settled, plan-read, words-read, regions-read}
use Rattle.compiler.proofs.VerdictLaws.{compile_written}
use Rattle.compiler.proofs.compile_accepted.Goals as goal

pub put_plan-requires : goal.put_plan-requires
put_plan-requires c =
    let t = c.new-lines.ensures in
    settled _ (unrefused _ _ c.requires) t.text t.starts t.gates

pub returns : goal.returns
returns c =
    let u = unrefused _ _ c.requires in
    let t = c.new-lines.ensures in
    let total = total_is _ _ _ (settled _ u t.text t.starts t.gates).few c.region_total.ensures in
    compile_written c.args.table.now c.args.plan.now c.requires (words-read _ u t.text t.starts t.gates c.put_plan.ensures.0)
    (regions-read _ u t.text t.starts t.gates total) (rw (plan-read _ u t.text t.starts t.gates) at c.put_plan.ensures.1)
