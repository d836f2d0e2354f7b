-- `ellip_rule`: by the place in the body.
use Rattle.gates.specs.Rules.{ellip_rule}
use Rattle.integers.proofs.Rules.{tests}
use Rattle.gaterules.proofs.ellip_rule.Goals as goal

pub returns-then-i-lt2 : goal.returns-then-i-lt2
unfolding ellip_rule
returns-then-i-lt2 c = search tests

pub returns-then-i-lt4 : goal.returns-then-i-lt4
unfolding ellip_rule
returns-then-i-lt4 c = search tests

pub returns-then-i-lt7 : goal.returns-then-i-lt7
unfolding ellip_rule
returns-then-i-lt7 c = search tests

pub returns : goal.returns
unfolding ellip_rule
returns c = search tests
