-- `new_quadrant` meets its contract.
use Rattle.linenames.specs.Inner.LineNames.{new_quadrant}
use Rattle.linenames.proofs.new_quadrant.Goals as goal

pub returns : goal.returns
unfolding new_quadrant
returns c =
    let quadrant-name = c.quadrant_name-x in
    let field = c.field in
    rw (c.find_quadrant.ensures, c.same.ensures, field.ensures, quadrant-name.ensures)
