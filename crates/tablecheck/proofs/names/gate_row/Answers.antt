-- `gate_row` meets its contract: the bits below j are those of what gate i refers to.
use Rattle.std.proofs.Common.{◌≡◌, ◌∙◌, arith}
use Rattle.tablecheck.specs.Inner.Names.{refers_by}
use Rattle.tablecheck.proofs.RowLaws.{row-none, row_more, refers-read}
use Rattle.tablecheck.proofs.names.gate_row.Goals as goal

pub loop-j-init : goal.loop-j-init
loop-j-init c = row-none (refers_by c.args.table.now.text.now c.args.table.now.starts c.args.i)

pub loop-j-preserved : goal.loop-j-preserved
loop-j-preserved c =
    let table = c.args.table.now in
    let t = table.text.now in
    let s = table.starts in
    let head = c.loop-j in
    row_more (refers_by t s c.args.i) head.row head.j head.invariant
    (refers-read t s c.args.i head.j c.line-line.ensures c.line.ensures c.refers_to.ensures) c.settle-row.ensures

pub returns : goal.returns
returns c =
    let h = c.loop-j-test.false in
    let e : c.loop-j.j ≡ c.args.table.now.gates = omega arith in
    λ b l. c.loop-j.invariant b l ∙ rw e
