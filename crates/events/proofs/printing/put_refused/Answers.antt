-- `put_refused`: the four parts of the line, one behind the other.
use native.Mathlib.Omega.{arith}
use Rattle.text.specs.Bytes.{bytes}
use Rattle.text.proofs.OutputLaws.{decimal-length}
use Rattle.events.specs.Printing.{refused_line}
use Rattle.events.proofs.PrintingLaws.{refused-written}
use Rattle.events.proofs.printing.put_refused.Goals as goal

pub overflow_add-b : goal.overflow_add-b
overflow_add-b c =
    omega (arith, decimal-length c.args.number)

pub overflow_add-c : goal.overflow_add-c
overflow_add-c c =
    let a = c.args in
    omega (arith, decimal-length a.number, decimal-length a.place)

pub overflow_add-result : goal.overflow_add-result
overflow_add-result c =
    let a = c.args in
    omega (arith, decimal-length a.number, decimal-length a.place)

pub returns : goal.returns
unfolding refused_line
returns c =
    let a = c.args in
    refused-written a.rest.now (bytes "refused") a.number c.put_bytes-a.ensures c.put_field_from.ensures
    a.place c.put_field_from-2.ensures c.put_bytes_from.ensures
