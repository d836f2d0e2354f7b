-- `kind_at` is `kind_at`.
use Rattle.plans.specs.Form.{kind_at}
use Rattle.plans.proofs.form.kind_at.Goals as goal

pub returns : goal.returns
unfolding kind_at
returns c = rw (c.kind_of.ensures, c.number_at.ensures)
