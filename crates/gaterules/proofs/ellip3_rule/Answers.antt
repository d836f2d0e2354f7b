-- `ellip3_rule`: by the place in the body.
use Rattle.gates.specs.Rules.{ellip3_rule}
use Rattle.integers.proofs.Rules.{tests}
use Rattle.gaterules.proofs.ellip3_rule.Goals as goal

pub returns-then-i-lt3 : goal.returns-then-i-lt3
unfolding ellip3_rule
returns-then-i-lt3 c = search tests

pub returns-then-i-lt6 : goal.returns-then-i-lt6
unfolding ellip3_rule
returns-then-i-lt6 c = search tests

pub returns-then-i-lt12 : goal.returns-then-i-lt12
unfolding ellip3_rule
returns-then-i-lt12 c = search tests

pub returns : goal.returns
unfolding ellip3_rule
returns c = search tests
