-- `is_parent` is `parent_good` of the word.
use Rattle.plans.specs.Form.{parent_good}
use Rattle.plans.proofs.form.Regions.is_parent.Goals as goal

pub returns : goal.returns
unfolding parent_good
returns c = rw (c.is_earlier.ensures, c.number_at.ensures, c.in_range_at.ensures)
