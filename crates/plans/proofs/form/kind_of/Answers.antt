-- `kind_of` makes the tests of `kind_of` in their order.
use Rattle.plans.specs.Kinds.{kind_of}
use Rattle.integers.proofs.Rules.{tests}
use Rattle.plans.proofs.form.kind_of.Goals as goal

pub returns-in-1 : goal.returns-in-1
unfolding kind_of
returns-in-1 c = search tests

pub returns-in-2 : goal.returns-in-2
unfolding kind_of
returns-in-2 c = search tests

pub returns-in-3 : goal.returns-in-3
unfolding kind_of
returns-in-3 c = search tests

pub returns-in-4 : goal.returns-in-4
unfolding kind_of
returns-in-4 c = search tests

pub returns-in-5 : goal.returns-in-5
unfolding kind_of
returns-in-5 c = search tests

pub returns-in-6 : goal.returns-in-6
unfolding kind_of
returns-in-6 c = search tests

pub returns-in-7 : goal.returns-in-7
unfolding kind_of
returns-in-7 c = search tests

pub returns-in-8 : goal.returns-in-8
unfolding kind_of
returns-in-8 c = search tests

pub returns-in_default : goal.returns-in_default
unfolding kind_of
returns-in_default c = search tests
