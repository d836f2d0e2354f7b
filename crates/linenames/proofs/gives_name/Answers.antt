-- `gives_name` meets its contract.
use Rattle.linenames.specs.Inner.LineNames.{gives_name}
use Rattle.linenames.proofs.gives_name.Goals as goal

pub returns : goal.returns
unfolding gives_name
returns c =
    let field = c.field in
    let same = c.same in
    rw (c.quad_count.ensures, c.find_quadrant.ensures, same.ensures, field.ensures)
