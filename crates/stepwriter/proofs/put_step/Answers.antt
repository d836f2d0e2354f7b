-- `put_step` meets its contract: by the kind of the line.
use Rattle.stepwriter.proofs.StepLaws.{combination-written, leaf-written}
use Rattle.stepwriter.proofs.put_step.Goals as goal

pub returns-then-has_operands : goal.returns-then-has_operands
returns-then-has_operands c =
    let a = c.args in
    let table = a.table.now in
    combination-written table.text.now table.starts table.gates a.place.gate a.place.quadrant a.region c.line-line.ensures
    c.parent_number-parent.ensures c.has_operands.ensures a.rest.now c.if-has_operands.true c.put_combination_step.ensures

pub returns : goal.returns
returns c =
    let a = c.args in
    let table = a.table.now in
    leaf-written table.text.now table.starts table.gates a.place.gate a.place.quadrant a.region c.line-line.ensures
    c.parent_number-parent.ensures c.has_operands.ensures a.rest.now c.if-has_operands.false c.head_line.ensures c.put_leaf_step.ensures
