-- `on_scale`: good says whether the values before the one at hand are on the scale.
use mathlib.Core.Path.{◌≡◌}
use Rattle.plans.specs.Indices.{all}
use Rattle.counter.specs.Judging.{value_good}
use Rattle.counter.proofs.groups.on_scale.Given as goal

abbrev pub invariant-loop-v : goal.invariant-loop-v
invariant-loop-v l = l.good ≡ all (value_good l.values) l.v-index
