-- `Table::number_of` meets its contract: base regions are passed, and the search is among those from base on.
use Rattle.std.proofs.Common.{rules, arith}
use Rattle.resolve.proofs.NumberLaws.{numbering_first, numbering_found, numbering_next, numbering_end, numbering_full}
use Rattle.resolve.proofs.Table.number_of.Goals as goal

pub loop-i-init : goal.loop-i-init
loop-i-init c = (search rules, numbering_first _ _ _ _)

pub returns-then-base-q : goal.returns-then-base-q
returns-then-base-q c =
    let table = c.args.self.now in
    let head = c.loop-i in
    numbering_full table.text.now table.starts table.gates c.args.name.now head.i c.loop-i-test.true head.base c.line-line.ensures c.region_count-m.ensures
    head.invariant.1 c.find_region-q.ensures c.if-base-q.true

pub returns-then-q-m : goal.returns-then-q-m
returns-then-q-m c =
    let table = c.args.self.now in
    let head = c.loop-i in
    let below = c.if-base-q.false in
    let found = numbering_found table.text.now table.starts table.gates c.args.name.now head.i c.loop-i-test.true head.base c.line-line.ensures
    c.region_count-m.ensures head.invariant.1 c.find_region-q.ensures c.if-q-m.true in
    omega (arith, found)

pub loop-i-preserved : goal.loop-i-preserved
loop-i-preserved c =
    let table = c.args.self.now in
    let head = c.loop-i in
    let below = c.if-base-q.false in
    let past = c.if-q-m.false in
    let small = head.invariant.0 in (
      omega arith,
      numbering_next table.text.now table.starts table.gates c.args.name.now head.i c.loop-i-test.true head.base c.line-line.ensures
          c.region_count-m.ensures head.invariant.1 c.find_region-q.ensures past,
    )

pub returns : goal.returns
returns c =
    let table = c.args.self.now in
    let head = c.loop-i in
    let whole = c.loop-i-test.false in
    let small = head.invariant.0 in
    let end = numbering_end table.text.now table.starts table.gates c.args.name.now head.i head.base (omega arith) head.invariant.1 in
    omega (arith, end)
