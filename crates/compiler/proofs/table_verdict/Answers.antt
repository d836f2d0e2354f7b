-- `table_verdict`: each refusal of 1 to 16.
use Rattle.std.proofs.lemmas.Result.{err_from_is_err_and}
use Rattle.compiler.proofs.VerdictLaws.{both, refused_16}
use Rattle.compiler.proofs.table_verdict.Goals as goal

pub returns-in_err-check_table : goal.returns-in_err-check_table
returns-in_err-check_table c =
    let p = err_from_is_err_and c.from_residual.result c.from_residual.ensures.1 in
    rw (p.1, p.2) (both (refused_16 c.args.table.now c.args.room c.in_err-check_table.ensures))
