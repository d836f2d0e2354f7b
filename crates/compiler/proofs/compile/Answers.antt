-- `compile`: the refusal.
use Rattle.std.proofs.lemmas.Result.{err_from_is_err_and}
use Rattle.compiler.proofs.VerdictLaws.{compile_refused}
use Rattle.compiler.proofs.compile.Goals as goal

pub returns-in_err-table_verdict : goal.returns-in_err-table_verdict
returns-in_err-table_verdict c =
    let p = err_from_is_err_and c.from_residual.result c.from_residual.ensures.1 in
    let v = c.in_err-table_verdict.ensures in
    rw (p.1, p.2) (compile_refused c.args.table.now c.args.plan.now (v.verdict, v.accepted))
