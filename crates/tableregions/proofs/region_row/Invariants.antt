-- `region_row` meets its contract: the numbers of the references in the fields before k are gathered.
use Rattle.tableregions.proofs.ReferenceLaws.{Gathered}
use Rattle.text.specs.Lines.{fields}
use Rattle.resolve.specs.Inner.Reading.{regions_at}
use Rattle.tableregions.proofs.region_row.Given as goal

abbrev pub invariant-loop-k : goal.invariant-loop-k
invariant-loop-k l = Gathered (regions_at l.table.text.now l.table.starts l.table.gates) (fields l.line) l.k l.row
