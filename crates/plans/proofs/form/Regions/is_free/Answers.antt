-- `is_free` is `free`.
use Rattle.plans.specs.Form.{free}
use Rattle.plans.proofs.form.Regions.is_free.Goals as goal

pub returns : goal.returns
unfolding free
returns c = rw c.has_bit.ensures
