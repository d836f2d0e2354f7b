-- `put_combination_step` meets its contract: the header and the first j operands are written over the beginning.
use Rattle.std.proofs.Common.{◌≡◌, arith}
use Rattle.text.specs.Lines.{fields}
use Rattle.gates.specs.Inner.Regions.{body_length}
use Rattle.resolve.specs.Inner.Reading.{regions_at}
use Rattle.writer.specs.Inner.Words.{operand_at}
use Rattle.writer.proofs.WordLaws.{body-length_le, step-length, step_begun, step-again}
use Rattle.stepwriter.proofs.StepLaws.{operand_more}
use Rattle.stepwriter.proofs.put_combination_step.Goals as goal

pub loop-j-init : goal.loop-j-init
loop-j-init c =
    let w = rw (c.step_number.ensures, c.body_length-m.ensures) at c.put_header.ensures.1 in
    step_begun _ _ _ _ _ _ w

pub overflow_add-j : goal.overflow_add-j
overflow_add-j c = omega (arith, body-length_le c.args.line.now)

pub loop-j-preserved : goal.loop-j-preserved
loop-j-preserved c =
    rw c.put_operand.ensures
    (operand_more _ _ _ _ _ _ _ _ c.loop-j.invariant c.operand_field-operand.ensures c.operand_name.ensures c.number_of-number.ensures c.is_complement.ensures)

pub overflow_add-result : goal.overflow_add-result
overflow_add-result c = omega (arith, body-length_le c.args.line.now)

pub returns : goal.returns
returns c =
    let loop = c.loop-j in
    let args = c.args in
    let table = args.table.now in
    let whole = c.loop-j-test.false in
    let fs = fields args.line.now in
    let w = rw (c.step_number.ensures, c.body_length-m.ensures) at c.put_header.ensures.1 in
    let e : loop.j ≡ body_length fs = omega arith in
    let word = operand_at (regions_at table.text.now table.starts table.gates) fs in
    (omega (arith, step-length fs args.region args.parent word), rw (loop.invariant, e) (step-again _ _ _ _ _ _ _ w))
