-- `is_within` is `spans`.
use mathlib.Core.Path.{refl}
use Rattle.plans.specs.Kinds.{spans}
use Rattle.plans.proofs.form.is_within.Goals as goal

pub returns : goal.returns
unfolding spans
returns c = refl
