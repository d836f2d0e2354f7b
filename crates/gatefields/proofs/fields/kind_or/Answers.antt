-- `kind_or`: by the comparison.
use Rattle.gatefields.proofs.fields.kind_or.Goals as goal

pub returns-then-same : goal.returns-then-same
returns-then-same c = rw (← c.same.ensures, c.if-same.true)

pub returns-else-same : goal.returns-else-same
returns-else-same c = rw (← c.same.ensures, c.if-same.false)
