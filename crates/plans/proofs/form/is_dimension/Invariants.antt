-- `is_dimension`: the dimensions before the u-th all differ from the t-th.
use mathlib.Core.Path.{◌≡◌}
use mathlib.Core.Bool.{true}
use Rattle.plans.specs.Indices.{all}
use Rattle.plans.specs.Form.{differs}
use Rattle.plans.proofs.form.is_dimension.Given as goal

abbrev pub invariant-loop-u : goal.invariant-loop-u
invariant-loop-u l = all (differs l.body l.s l.t) l.u ≡ true
