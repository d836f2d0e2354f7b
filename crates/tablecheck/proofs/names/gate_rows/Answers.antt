-- `gate_rows` meets its contract: the rows below i are those of their gates.
use Rattle.std.proofs.Common.{◌∙◌, rules, arith}
use borrow.Author.Tests.{lt-ltb}
use Rattle.graph.specs.Inner.Rows.{bit_at}
use Rattle.tablecheck.specs.Inner.Names.{refers_by}
use Rattle.tablecheck.proofs.RowLaws.{Row}
use Rattle.tablecheck.proofs.CircleLaws.{row-set}
use Rattle.tablecheck.proofs.names.gate_rows.Goals as goal

pub loop-i-init : goal.loop-i-init
loop-i-init c = (search rules, λ a h. absurd (omega arith))

pub loop-i-preserved : goal.loop-i-preserved
loop-i-preserved c =
    let table = c.args.table.now in
    let head = c.loop-i in (
      search rules,
      row-set (λ a row. Row (refers_by table.text.now table.starts a) table.gates row)
          head.rows.bits head.i _ (let l = head.invariant.0 in let h = c.loop-i-test.true in omega arith) head.invariant.1 c.gate_row.ensures,
    )

pub returns : goal.returns
unfolding bit_at
returns c =
    let few = c.requires in
    let whole = c.loop-i-test.false in
    λ a b h k. c.loop-i.invariant.1 a (omega arith) b (omega arith) ∙ rw (lt-ltb b c.args.table.now.gates k)
