-- `on_scale_at` is `on_scale` of the word.
use Rattle.plans.specs.Words.{on_scale}
use Rattle.plans.proofs.form.on_scale_at.Goals as goal

pub returns : goal.returns
unfolding on_scale
returns c = c.in_range_at.ensures
