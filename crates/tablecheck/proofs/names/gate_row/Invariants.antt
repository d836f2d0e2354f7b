-- `gate_row` meets its contract: the bits below j are those of what gate i refers to.
use Rattle.tablecheck.proofs.RowLaws.{Row}
use Rattle.tablecheck.specs.Inner.Names.{refers_by}
use Rattle.tablecheck.proofs.names.gate_row.Given as goal

abbrev pub invariant-loop-j : goal.invariant-loop-j
invariant-loop-j l = Row (refers_by l.table.text.now l.table.starts l.i) l.j l.row
