-- `settle` meets its contract.
use Rattle.resolve.proofs.settle.Goals as goal

pub returns-then-b : goal.returns-then-b
returns-then-b c = rw c.if-b.true c.with_bit.ensures
