-- `put_field`: a tab, then the digits.
use native.Mathlib.Omega.{arith}
use Rattle.text.specs.Output.{decimal}
use Rattle.text.proofs.OutputLaws.{decimal-length}
use Rattle.events.proofs.PrintingLaws.{written-more}
use Rattle.events.proofs.printing.put_field.Goals as goal

pub overflow_add-result : goal.overflow_add-result
overflow_add-result c =
    omega (arith, decimal-length c.args.x)

pub returns : goal.returns
returns c =
    let a = c.args in
    written-more _ a.rest.now (decimal a.x) c.put_bytes-a.ensures c.put_number_from.ensures
