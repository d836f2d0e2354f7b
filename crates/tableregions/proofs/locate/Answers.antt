-- `locate` meets its contract: what is left of r behind the gates before this one, each of which ends before region r.
use Rattle.std.proofs.Common.{◌≡◌, ◌∙◌, arith}
use native.Mathlib.Nat.{sub-zero}
use Rattle.plans.proofs.IndexLaws.{first_more, first_stop, first_end}
use Rattle.tableregions.proofs.PlaceLaws.{first-left, next-left, ended, not-ended, located_as, found_place, no_place}
use Rattle.tableregions.specs.Inner.Located.{ends_before}
use Rattle.tableregions.proofs.locate.Goals as goal

pub loop-gate-init : goal.loop-gate-init
loop-gate-init c = (first-left c.args.table.now.text.now c.args.table.now.starts c.args.r, rw sub-zero)

pub returns-then-left-m : goal.returns-then-left-m
returns-then-left-m c =
    let table = c.args.table.now in
    let t = table.text.now in
    let s = table.starts in
    let r = c.args.r in
    let head = c.loop-gate in
    let here = not-ended t s head.gate c.line.ensures c.region_count-m.ensures r head.left head.invariant.0 c.if-left-m.true in
    found_place table.gates (record { gate = head.gate; quadrant = head.left })
    (located_as t s table.gates r head.gate head.left (head.invariant.1 ∙ first_stop (ends_before t s r) table.gates head.gate c.loop-gate-test.true here)
    head.invariant.0)
    c.loop-gate-test.true

pub loop-gate-preserved : goal.loop-gate-preserved
loop-gate-preserved c =
    let table = c.args.table.now in
    let t = table.text.now in
    let s = table.starts in
    let r = c.args.r in
    let head = c.loop-gate in (
      next-left t s head.gate c.line.ensures c.region_count-m.ensures r head.left head.invariant.0 c.if-left-m.false,
      head.invariant.1 ∙ first_more (ends_before t s r) table.gates head.gate c.loop-gate-test.true
          (ended t s head.gate c.line.ensures c.region_count-m.ensures r head.left head.invariant.0 c.if-left-m.false),
    )

pub returns : goal.returns
returns c =
    let table = c.args.table.now in
    let t = table.text.now in
    let s = table.starts in
    let r = c.args.r in
    let head = c.loop-gate in
    let whole = c.loop-gate-test.false in
    let end : head.gate ≡ table.gates = omega arith in
    no_place table.gates (record { gate = head.gate; quadrant = head.left })
    (located_as t s table.gates r head.gate head.left (head.invariant.1 ∙ first_end (ends_before t s r) table.gates head.gate whole) head.invariant.0) whole
