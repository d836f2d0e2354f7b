-- `rect_rule`: by the place in its three fields.
use Rattle.gates.specs.Rules.{rect_rule}
use Rattle.integers.proofs.Rules.{tests}
use Rattle.gaterules.proofs.rect_rule.Goals as goal

pub returns-then-i-eq0 : goal.returns-then-i-eq0
unfolding rect_rule
returns-then-i-eq0 c = search tests

pub returns-then-i-eq1 : goal.returns-then-i-eq1
unfolding rect_rule
returns-then-i-eq1 c = search tests

pub returns : goal.returns
unfolding rect_rule
returns c = search tests
