-- `poly_rule`: by the place in the body.
use Rattle.gates.specs.Rules.{poly_rule}
use Rattle.integers.proofs.Rules.{tests}
use Rattle.gaterules.proofs.poly_rule.Goals as goal

pub returns-then-i-lt2 : goal.returns-then-i-lt2
unfolding poly_rule
returns-then-i-lt2 c = search tests

pub returns : goal.returns
unfolding poly_rule
returns c = search tests
