-- `names_region` meets its contract.
use Rattle.linenames.specs.Inner.LineNames.{names_region}
use Rattle.linenames.proofs.names_region.Goals as goal

pub returns : goal.returns
unfolding names_region
returns c = rw (c.region_count.ensures, c.find_region.ensures)
