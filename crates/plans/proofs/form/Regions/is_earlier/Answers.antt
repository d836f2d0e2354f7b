-- `is_earlier` is `earlier`.
use Rattle.plans.specs.Form.{earlier}
use Rattle.plans.proofs.form.Regions.is_earlier.Goals as goal

pub returns : goal.returns
unfolding earlier
returns c = rw c.has_bit.ensures
