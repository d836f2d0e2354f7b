-- `put_spoilt`: the line of the name `spoilt`.
use Rattle.events.specs.Printing.{spoilt_line}
use Rattle.events.proofs.printing.put_spoilt.Goals as goal

pub returns : goal.returns
unfolding spoilt_line
returns c = c.put_count_from.ensures
