-- `layout_good`: the contracts of the calls, put together.
use Rattle.std.proofs.Common.{rules, tests}
use Rattle.gates.specs.Quads.{layout_good}
use Rattle.gatefields.proofs.quads.layout_good.Goals as goal

pub returns-then-a-n : goal.returns-then-a-n
unfolding layout_good
returns-then-a-n c = search (rules, tests)

pub returns-else-a-n : goal.returns-else-a-n
unfolding layout_good
returns-else-a-n c = search (rules, tests)
