-- `region_rows` meets its contract: the rows before r are written over 64 zeros.
use Rattle.std.proofs.Common.{◌≡◌, ◌∙◌, arith}
use Rattle.tableregions.specs.Inner.Located.{row_of}
use Rattle.graph.specs.Inner.Rows.{zero_rows}
use Rattle.graph.proofs.RowLaws.{all_written}
use Rattle.text.specs.Output.{over}
use Rattle.text.proofs.BoundedLaws.{tab-more}
use Rattle.resolve.specs.Inner.Reading.{regions_at}
use Rattle.tableregions.proofs.region_rows.Goals as goal

pub loop-r-init : goal.loop-r-init
unfolding over
loop-r-init c = c.new-rows.ensures

pub loop-r-preserved : goal.loop-r-preserved
loop-r-preserved c =
    let table = c.args.table.now in
    let row = row_of (regions_at table.text.now table.starts table.gates) in
    rw (c.loop-r.invariant, c.region_row.ensures) (tab-more row zero_rows c.loop-r.r)

pub returns : goal.returns
unfolding zero_rows
returns c =
    let table = c.args.table.now in
    let head = c.loop-r in
    let whole = c.loop-r-test.false in
    let z : head.r ≡ 64 = omega arith in
    head.invariant ∙ rw z (all_written (row_of (regions_at table.text.now table.starts table.gates)) zero_rows)
