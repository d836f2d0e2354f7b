-- `ellipsoid_word` makes the tests of `ellipsoid_word` in their order.
use borrow.Author.Tests.{lt-ltb, le-ltb, eq-eqb, ne_eqb}
use Rattle.plans.specs.Form.{ellipsoid_word}
use Rattle.plans.proofs.form.ellipsoid_word.Goals as goal

pub returns-then-i-lt3 : goal.returns-then-i-lt3
unfolding ellipsoid_word
returns-then-i-lt3 c = rw (lt-ltb _ _ c.if-i-lt3.true) c.is_dimension.ensures

pub returns-then-i-lt6 : goal.returns-then-i-lt6
unfolding ellipsoid_word
returns-then-i-lt6 c = rw (le-ltb _ _ c.if-i-lt3.false, lt-ltb _ _ c.if-i-lt6.true) c.on_scale_at.ensures

pub returns-then-i-eq6 : goal.returns-then-i-eq6
unfolding ellipsoid_word
returns-then-i-eq6 c =
    rw (le-ltb _ _ c.if-i-lt3.false, le-ltb _ _ c.if-i-lt6.false, eq-eqb _ _ c.if-i-eq6.true)
    c.matrix3_word.ensures

pub returns-then-i-lt12 : goal.returns-then-i-lt12
unfolding ellipsoid_word
returns-then-i-lt12 c =
    rw (le-ltb _ _ c.if-i-lt3.false, le-ltb _ _ c.if-i-lt6.false, ne_eqb _ _ c.if-i-eq6.false, lt-ltb _ _ c.if-i-lt12.true)
    c.entry_at.ensures

pub returns : goal.returns
unfolding ellipsoid_word
returns c =
    rw (le-ltb _ _ c.if-i-lt3.false, le-ltb _ _ c.if-i-lt6.false, ne_eqb _ _ c.if-i-eq6.false, le-ltb _ _ c.if-i-lt12.false)
    c.in_range_at.ensures
