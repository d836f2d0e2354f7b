-- `put_count`: the three parts of the line, one behind the other.
use native.Mathlib.Omega.{arith}
use Rattle.text.proofs.OutputLaws.{decimal-length}
use Rattle.events.proofs.PrintingLaws.{count-written}
use Rattle.events.proofs.printing.put_count.Goals as goal

pub overflow_add-b : goal.overflow_add-b
overflow_add-b c =
    omega (arith, decimal-length c.args.count)

pub overflow_add-result : goal.overflow_add-result
overflow_add-result c =
    omega (arith, decimal-length c.args.count)

pub returns : goal.returns
returns c =
    let a = c.args in
    count-written a.rest.now a.name.now a.count c.put_bytes-a.ensures c.put_field_from.ensures c.put_bytes_from.ensures
