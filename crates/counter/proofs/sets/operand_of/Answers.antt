-- `operand_of`: a word below 128 names a region below 64.
use mathlib.Core.Path.{◌∙◌}
use borrow.Author.Tests.{eq-eqb, ne_eqb}
use Rattle.counter.specs.Inner.Groups.{in_set, outside, operand_at}
use Rattle.counter.proofs.sets.operand_of.Goals as goal

pub returns-then-u-eq1 : goal.returns-then-u-eq1
unfolding operand_at in_set outside
returns-then-u-eq1 c =
    let q = c.number_in-u.ensures in
    record { each = λ e h. c.complement.ensures.each e h ∙ rw (← q, eq-eqb _ _ c.if-u-eq1.true) }

pub returns-else-u-eq1 : goal.returns-else-u-eq1
unfolding operand_at in_set
returns-else-u-eq1 c =
    let q = c.number_in-u.ensures in
    record { each = λ e h. rw (← q, ne_eqb _ _ c.if-u-eq1.false) }
