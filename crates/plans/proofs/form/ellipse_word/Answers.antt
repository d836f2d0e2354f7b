-- `ellipse_word` makes the tests of `ellipse_word` in their order.
use mir.Facts.{to_z-of_z}
use borrow.Author.Tests.{lt-ltb, le-ltb, eq-eqb, ne_eqb}
use Rattle.plans.proofs.FormLaws.{kept_from_lem}
use Rattle.plans.specs.Form.{ellipse_word}
use Rattle.plans.proofs.form.ellipse_word.Goals as goal

pub returns-then-i-lt2 : goal.returns-then-i-lt2
unfolding ellipse_word
returns-then-i-lt2 c = rw (lt-ltb _ _ c.if-i-lt2.true) c.is_dimension.ensures

pub returns-then-i-lt4 : goal.returns-then-i-lt4
unfolding ellipse_word
returns-then-i-lt4 c = rw (le-ltb _ _ c.if-i-lt2.false, lt-ltb _ _ c.if-i-lt4.true) c.on_scale_at.ensures

pub matrix_word-requires : goal.matrix_word-requires
matrix_word-requires c =
    kept_from_lem c.args.most c.ranges.most c.requires

pub returns-then-i-eq4 : goal.returns-then-i-eq4
unfolding ellipse_word
returns-then-i-eq4 c =
    rw (le-ltb _ _ c.if-i-lt2.false, le-ltb _ _ c.if-i-lt4.false, eq-eqb _ _ c.if-i-eq4.true)
    (simp (to_z-of_z, c.ranges.most) at c.matrix_word.ensures)

pub entry_at-requires : goal.entry_at-requires
entry_at-requires c =
    kept_from_lem c.args.most c.ranges.most c.requires

pub returns-then-i-lt7 : goal.returns-then-i-lt7
unfolding ellipse_word
returns-then-i-lt7 c =
    rw (le-ltb _ _ c.if-i-lt2.false, le-ltb _ _ c.if-i-lt4.false, ne_eqb _ _ c.if-i-eq4.false, lt-ltb _ _ c.if-i-lt7.true)
    (simp (to_z-of_z, c.ranges.most) at c.entry_at.ensures)

pub returns : goal.returns
unfolding ellipse_word
returns c =
    rw (le-ltb _ _ c.if-i-lt2.false, le-ltb _ _ c.if-i-lt4.false, ne_eqb _ _ c.if-i-eq4.false, le-ltb _ _ c.if-i-lt7.false)
    (simp (to_z-of_z, c.ranges.far) at c.in_range_at.ensures)
