-- `dimension_passes`: the contracts of the calls, put together.
use Rattle.gates.specs.Rules.{dimension_passes}
use Rattle.gaterules.proofs.dimension_passes.Goals as goal

pub returns : goal.returns
unfolding dimension_passes
returns c =
    rw (c.repeated.ensures, c.name_count.ensures, c.dimension_of.ensures, c.field.ensures)
