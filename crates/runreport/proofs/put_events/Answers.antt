-- `put_events`: the events are read and counted, and what that prints.
use mathlib.Core.Bool.{false}
use native.Mathlib.Omega.{arith}
use Rattle.plans.specs.Form.{width}
use Rattle.events.proofs.EventTheorems.{read-values, read-ragged, read_short}
use Rattle.runreport.proofs.RunLaws.{width_is, count-is, count_most, ran-counted, ran-ragged}
use Rattle.runreport.proofs.put_events.Goals as goal

pub put_counted-requires : goal.put_counted-requires
put_counted-requires c =
    let plan = c.args.plan.now in
    omega (arith, count-is plan c.number_at-k.ensures, count_most plan c.requires.2)

pub returns-in-Ok : goal.returns-in-Ok
returns-in-Ok c =
    let plan = c.args.plan.now in
    let wide = width_is plan c.number_at.ensures in
    let v = read-values false (width plan) c.args.input.now c.args.list.now (rw wide at c.read_events.ensures.answer) c.in-Ok.is
    (rw wide at c.read_events.ensures.values) in
    rw (ran-counted plan c.requires.2 v.0 v.1 (count-is plan c.number_at-k.ensures) v.2) at c.put_counted.ensures

pub returns-in-Err-Ragged : goal.returns-in-Err-Ragged
returns-in-Err-Ragged c =
    let plan = c.args.plan.now in
    let ragged = c.in-Err-Ragged in
    let e = read-ragged false (width plan) c.args.input.now c.args.list.now (rw (width_is plan c.number_at.ensures) at c.read_events.ensures.answer)
    (rw ragged.field-0-is at ragged.is) in
    rw (ran-ragged plan c.requires.2 ragged.line e) at c.put_refused.ensures

pub returns-in-Err-Short : goal.returns-in-Err-Short
returns-in-Err-Short c =
    let plan = c.args.plan.now in
    let short = c.in-Err-Short in
    absurd
    (read_short false (width plan) c.args.input.now c.args.list.now (rw (width_is plan c.number_at.ensures) at c.read_events.ensures.answer)
    (omega (arith, c.requires.0, c.requires.1)) (rw short.field-0-is at short.is))
