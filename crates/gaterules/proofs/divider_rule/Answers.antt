-- `divider_rule`: by the place in the divider.
use Rattle.gates.specs.Rules.{divider_rule}
use Rattle.integers.proofs.Rules.{tests}
use Rattle.gaterules.proofs.divider_rule.Goals as goal

pub returns-then-i-eq0 : goal.returns-then-i-eq0
unfolding divider_rule
returns-then-i-eq0 c = search tests

pub returns-then-i-eq1 : goal.returns-then-i-eq1
unfolding divider_rule
returns-then-i-eq1 c = search tests

pub returns-then-i-eq2 : goal.returns-then-i-eq2
unfolding divider_rule
returns-then-i-eq2 c = search tests

pub returns : goal.returns
unfolding divider_rule
returns c = search tests
