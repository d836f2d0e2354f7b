-- `put_into` meets its contract.
use Rattle.graph.proofs.put_into.Goals as goal

pub returns-then-has_bit : goal.returns-then-has_bit
returns-then-has_bit c = rw (← c.has_bit.ensures, c.if-has_bit.true)

pub returns-else-has_bit : goal.returns-else-has_bit
returns-else-has_bit c = rw (← c.has_bit.ensures, c.if-has_bit.false)
