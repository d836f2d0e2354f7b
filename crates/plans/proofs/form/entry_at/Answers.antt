-- `entry_at` is `entry` of the word.
use Rattle.plans.proofs.FormLaws.{negated_fits, entry_bounds}
use Rattle.plans.proofs.form.entry_at.Goals as goal

pub overflow_sub-most : goal.overflow_sub-most
overflow_sub-most c = negated_fits c.args.most c.ranges.most c.requires

pub returns : goal.returns
returns c = entry_bounds c.args.most c.ranges.most c.requires _ c.in_range_at.ensures
