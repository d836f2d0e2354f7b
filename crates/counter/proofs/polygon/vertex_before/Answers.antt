-- `vertex_before`: the last vertex before the first, else the one two words before.
use Rattle.counter.specs.Inner.Walks.{vertex_before}
use Rattle.counter.proofs.WalkLaws.{before-later}
use Rattle.counter.proofs.polygon.vertex_before.Goals as goal

pub returns-then-i-eq0 : goal.returns-then-i-eq0
unfolding vertex_before
returns-then-i-eq0 c = rw c.if-i-eq0.true

pub returns-else-i-eq0 : goal.returns-else-i-eq0
returns-else-i-eq0 c = before-later c.args.n c.args.i c.if-i-eq0.false
