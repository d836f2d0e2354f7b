-- `parent_set`: the set of the parent where there is one.
use mathlib.Core.Path.{refl}
use Rattle.counter.specs.Inner.Groups.{in_set}
use Rattle.counter.proofs.sets.parent_set.Goals as goal

pub returns-in-Some : goal.returns-in-Some
unfolding in_set
returns-in-Some c = rw c.in-Some.is (record { each = λ e h. refl })
