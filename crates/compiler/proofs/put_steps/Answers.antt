-- `put_steps` meets its contract: as many steps as rounds are over are written over the beginning.
use Rattle.compiler.proofs.StepsLaws.{filling_none, filling_end, filling_stuck, filling_more, next-is}
use Rattle.graph.specs.Inner.Rows.{Referring}
use Rattle.resolve.specs.Inner.Reading.{regions_at}
use Rattle.tableregions.proofs.ReferenceLaws.{referring}
use Rattle.stepwriter.proofs.StepLaws.{step-short}
use native.Mathlib.Omega.{arith}
use Rattle.compiler.proofs.put_steps.Goals as goal

pub loop-init : goal.loop-init
loop-init c = filling_none _ _

pub returns-then-total-r : goal.returns-then-total-r
returns-then-total-r c =
    let t = c.args.table.now in
    let f = c.loop.invariant in
    let bound = f.bound in
    let fewer = f.few in
    let total = c.requires.total in
    let few = c.requires.settled.few in
    let rs = regions_at t.text.now t.starts t.gates in
    let rows : Referring rs c.region_rows-rows.result.bits = rw c.region_rows-rows.ensures (referring t.text.now t.starts t.gates c.requires.settled) in
    let e = next-is rs c.region_rows-rows.result.bits rows total c.loop.written c.next_row-r.ensures in
    record { within = omega arith; writes = filling_stuck _ _ f (omega arith) (omega arith) }

pub put_step_from-at-requires : goal.put_step_from-at-requires
put_step_from-at-requires c =
    let t = c.requires.total in
    record { settled = c.requires.settled; region = omega arith }

pub overflow_add-at : goal.overflow_add-at
overflow_add-at c =
    let t = c.args.table.now in
    let words = c.put_step_from-at.ensures.0 in
    let f = c.loop.invariant in
    let bound = f.bound in
    let fewer = f.few in
    let total = c.requires.total in
    let few = c.requires.settled.few in
    let short = step-short t.text.now t.starts t.gates c.next_row-r.result c.requires.settled (omega arith) in
    omega arith

pub loop-preserved : goal.loop-preserved
loop-preserved c =
    let t = c.args.table.now in
    let settled = c.requires.settled in
    let total = c.requires.total in
    let words = c.put_step_from-at.ensures.0 in
    let rs = regions_at t.text.now t.starts t.gates in
    let rows : Referring rs c.region_rows-rows.result.bits = rw c.region_rows-rows.ensures (referring t.text.now t.starts t.gates settled) in
    let e = next-is rs c.region_rows-rows.result.bits rows total c.loop.written c.next_row-r.ensures in
    let short = step-short t.text.now t.starts t.gates c.next_row-r.result settled (omega arith) in
    filling_more _ _ c.loop.invariant (omega arith) _ e (omega arith) words (omega arith) c.put_step_from-at.ensures.1 c.with_bit-written.ensures

pub returns : goal.returns
returns c =
    let f = c.loop.invariant in
    let total = c.requires.total in
    let written = filling_end _ _ f (omega arith) in
    let fewer = f.few in
    let bound = f.bound in
    let few = c.requires.settled.few in
    record { within = omega arith; writes = written }
