-- `has_reference` meets its contract.
use Rattle.linenames.specs.Inner.LineNames.{has_reference}
use Rattle.linenames.proofs.has_reference.Goals as goal

pub returns : goal.returns
unfolding has_reference
returns c = rw (c.is_none.ensures, c.field.ensures)
