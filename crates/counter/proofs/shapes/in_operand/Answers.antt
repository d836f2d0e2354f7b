-- `in_operand`: a word below 128 names a region below 64.
use borrow.Author.Tests.{eq-eqb, ne_eqb}
use Rattle.counter.specs.Members.{operand_in}
use Rattle.counter.proofs.shapes.in_operand.Goals as goal

pub returns-then-u-eq1 : goal.returns-then-u-eq1
unfolding operand_in
returns-then-u-eq1 c = let e = c.number_in-u.ensures in rw (← e, eq-eqb _ _ c.if-u-eq1.true, c.bit_in-b.ensures)

pub returns-else-u-eq1 : goal.returns-else-u-eq1
unfolding operand_in
returns-else-u-eq1 c = let e = c.number_in-u.ensures in rw (← e, ne_eqb _ _ c.if-u-eq1.false, c.bit_in-b.ensures)
