-- `put_taken`: the line of the name `taken`.
use Rattle.events.specs.Printing.{taken_line}
use Rattle.events.proofs.printing.put_taken.Goals as goal

pub returns : goal.returns
unfolding taken_line
returns c = c.put_count_from.ensures
