-- `Table::new` meets its contract: the places are written over 66 zeros.
use Rattle.resolve.specs.Inner.Reading.{starts_of}
use Rattle.resolve.proofs.Table.new.Goals as goal

pub returns-clause-starts : goal.returns-clause-starts
unfolding starts_of
returns-clause-starts c = c.index_lines-lines.ensures.1
