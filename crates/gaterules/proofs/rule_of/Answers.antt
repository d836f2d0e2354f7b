-- `rule_of`: the first three fields are the same for all kinds; a later one goes by the kind.
use Rattle.gates.specs.Rules.{rule_of}
use Rattle.integers.proofs.Rules.{tests}
use Rattle.gaterules.proofs.rule_of.Goals as goal

pub returns-then-k-eq0 : goal.returns-then-k-eq0
unfolding rule_of
returns-then-k-eq0 c = search tests

pub returns-then-k-eq1 : goal.returns-then-k-eq1
unfolding rule_of
returns-then-k-eq1 c = search tests

pub returns-then-k-eq2 : goal.returns-then-k-eq2
unfolding rule_of
returns-then-k-eq2 c = search tests

pub returns : goal.returns
unfolding rule_of
returns c = rw c.body_rule.ensures (search tests)
