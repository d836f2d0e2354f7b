-- `count_of`: a field of one byte from `1` to `3`, and 0 for any other.
use Rattle.gates.specs.Quads.{count_digit}
use Rattle.plans.specs.Kinds.{spans}
use Rattle.integers.proofs.Rules.{tests}
use Rattle.gatefields.proofs.quads.count_of.Goals as goal

pub returns-in-49 : goal.returns-in-49
unfolding count_digit spans
returns-in-49 c = search tests

pub returns-in-50 : goal.returns-in-50
unfolding count_digit spans
returns-in-50 c = search tests

pub returns-in-51 : goal.returns-in-51
unfolding count_digit spans
returns-in-51 c = search tests

pub returns-in_default : goal.returns-in_default
unfolding count_digit spans
returns-in_default c = search tests

pub returns-in_default-2 : goal.returns-in_default-2
unfolding count_digit spans
returns-in_default-2 c = search tests

pub returns-in_default-3 : goal.returns-in_default-3
unfolding count_digit spans
returns-in_default-3 c = search tests
