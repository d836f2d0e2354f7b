-- `has_operands`: by the kind of the line.
use Rattle.writer.proofs.has_operands.Goals as goal

pub returns : goal.returns
returns c = rw (c.combines.ensures, c.kind_of.ensures)
