-- `box_word` makes the tests of `box_word` in their order.
use Rattle.plans.proofs.FormLaws.{box-dimension, box-min, box-max}
use Rattle.plans.proofs.form.box_word.Goals as goal

pub returns-then-j-eq0 : goal.returns-then-j-eq0
returns-then-j-eq0 c =
    let args = c.args in
    box-dimension args.n args.body.now args.i c.if-j-eq0.true c.is_dimension.ensures

pub returns-then-j-eq1 : goal.returns-then-j-eq1
returns-then-j-eq1 c =
    let args = c.args in
    box-min args.n args.body.now args.i c.if-j-eq0.false c.if-j-eq1.true c.on_scale_at.ensures

pub returns : goal.returns
returns c =
    let args = c.args in
    box-max args.n args.body.now args.i c.if-j-eq0.false c.if-j-eq1.false c.in_range_at.ensures c.less_at.ensures
