-- `region_rows` meets its contract: the rows before r are written over 64 zeros.
use Rattle.tableregions.specs.Inner.Located.{row_of}
use Rattle.graph.specs.Inner.Rows.{zero_rows}
use Rattle.text.specs.Bounded.{tab}
use Rattle.text.specs.Output.{over}
use Rattle.resolve.specs.Inner.Reading.{regions_at}
use mathlib.Core.Path.{◌≡◌}
use Rattle.tableregions.proofs.region_rows.Given as goal

abbrev pub invariant-loop-r : goal.invariant-loop-r
invariant-loop-r l = l.rows.bits ≡ over (tab (row_of (regions_at l.table.text.now l.table.starts l.table.gates)) l.r) zero_rows
