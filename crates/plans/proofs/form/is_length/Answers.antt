-- `is_length` goes by kind as `length_good` does.
use Rattle.plans.specs.Kinds.{spans_by}
use Rattle.plans.proofs.form.is_length.Goals as goal

pub returns-in-Box : goal.returns-in-Box
unfolding spans_by
returns-in-Box c = rw (c.in-Box.is, c.is_within.ensures)

pub returns-in-Polygon : goal.returns-in-Polygon
unfolding spans_by
returns-in-Polygon c = rw (c.in-Polygon.is, c.is_within-in-Polygon.ensures)
