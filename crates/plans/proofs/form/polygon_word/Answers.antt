-- `polygon_word` makes the tests of `polygon_word` in their order.
use borrow.Author.Tests.{lt-ltb, le-ltb}
use Rattle.plans.specs.Form.{polygon_word}
use Rattle.plans.proofs.form.polygon_word.Goals as goal

pub returns-then-i-lt2 : goal.returns-then-i-lt2
unfolding polygon_word
returns-then-i-lt2 c = rw (lt-ltb _ _ c.if-i-lt2.true) c.is_dimension.ensures

pub returns : goal.returns
unfolding polygon_word
returns c = rw (le-ltb _ _ c.if-i-lt2.false) c.on_scale_at.ensures
