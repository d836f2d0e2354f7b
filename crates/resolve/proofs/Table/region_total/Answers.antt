-- `Table::region_total` meets its contract: total regions are passed, fewer than 64.
use Rattle.std.proofs.Common.{◌≡◌, ap, ◌∙◌, ℕ, length, rules, arith}
use Rattle.resolve.proofs.CrowdLaws.{total-none, total-next, total_full}
use Rattle.resolve.specs.Inner.Reading.{regions_at}
use Rattle.resolve.proofs.Table.region_total.Goals as goal

pub loop-i-init : goal.loop-i-init
loop-i-init c = (search rules, total-none _ _)

pub returns-then-total-m : goal.returns-then-total-m
returns-then-total-m c =
    let table = c.args.self.now in
    let head = c.loop-i in
    total_full table.text.now table.starts table.gates head.i c.loop-i-test.true c.line.ensures c.region_count-m.ensures head.invariant.1 c.if-total-m.true

pub loop-i-preserved : goal.loop-i-preserved
loop-i-preserved c =
    let table = c.args.self.now in
    let head = c.loop-i in
    let below = c.if-total-m.false in
    let small = head.invariant.0 in (
      omega arith,
      total-next table.text.now table.starts table.gates head.i c.loop-i-test.true c.line.ensures c.region_count-m.ensures head.invariant.1,
    )

pub returns : goal.returns
returns c =
    let table = c.args.self.now in
    let head = c.loop-i in
    let whole = c.loop-i-test.false in
    let small = head.invariant.0 in
    let all : head.i ≡ table.gates = omega arith in
    let total : head.total ≡ length (regions_at table.text.now table.starts table.gates) =
    head.invariant.1 ∙ ap (λ (k : ℕ). length (regions_at table.text.now table.starts k)) all in
    omega (arith, total)
