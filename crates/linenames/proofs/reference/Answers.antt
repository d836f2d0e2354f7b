-- `reference` meets its contract.
use Rattle.linenames.specs.Inner.LineNames.{reference_at}
use borrow.Author.Tests.{eq-eqb, ne_eqb}
use Rattle.linenames.proofs.reference.Goals as goal

pub returns-then-k-eq2 : goal.returns-then-k-eq2
unfolding reference_at
returns-then-k-eq2 c =
    rw (eq-eqb c.args.k 2 c.if-k-eq2.true) c.field.ensures

pub returns : goal.returns
unfolding reference_at
returns c =
    let if1 = c.if-k-eq2 in
    rw (ne_eqb c.args.k 2 if1.false, c.operand_name.ensures, c.field-2.ensures)
