-- `judge_passed`: the event's length, its values, its bits.
use native.Mathlib.Omega.{arith}
use mathlib.Core.Path.{◌∙◌}
use Rattle.plans.specs.Form.{width}
use Rattle.counter.proofs.SoundLaws.{passing}
use Rattle.counter.proofs.JudgeLaws.{other_length, off_scale, is-judged, values_on_scale}
use Rattle.counter.proofs.passing.judge_passed.Goals as goal

pub number_in-n-requires : goal.number_in-n-requires
unfolding width
number_in-n-requires c =
    let w = passing c.args.plan.now c.requires in
    let t = w.two in
    let n = w.narrow in
    (omega arith, omega arith)

pub returns-then-m-n : goal.returns-then-m-n
returns-then-m-n c = other_length c.args.plan.now c.args.event.now c.number_in-n.ensures c.if-m-n.true

pub returns-then-i-m : goal.returns-then-i-m
returns-then-i-m c =
    let args = c.args in
    off_scale args.plan.now args.event.now c.number_in-n.ensures c.if-m-n.false c.first_spoilt-i.ensures
    c.if-i-m.true

pub bits_of-requires : goal.bits_of-requires
unfolding width
bits_of-requires c = (
  c.requires,
  c.if-m-n.false ∙ c.number_in-n.ensures,
  values_on_scale c.args.event.now (rw c.first_spoilt-i.ensures at c.if-i-m.false),
)

pub returns : goal.returns
returns c =
    let args = c.args in
    is-judged args.plan.now args.event.now c.number_in-n.ensures c.if-m-n.false c.first_spoilt-i.ensures
    c.if-i-m.false c.bits_of.ensures.0 c.bits_of.ensures.1
