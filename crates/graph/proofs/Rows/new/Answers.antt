-- `Rows::new` meets its contract: the array is 64 zeros.
use Rattle.std.proofs.Common.{rules}
use Rattle.graph.specs.Inner.Rows.{zero_rows}
use Rattle.graph.proofs.Rows.new.Goals as goal

pub returns : goal.returns
unfolding zero_rows
returns c = search rules
