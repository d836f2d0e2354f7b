-- `is_within` meets its contract.
use mathlib.Core.Path.{refl}
use Rattle.graph.specs.Inner.Rows.{is_subset}
use Rattle.graph.proofs.is_within.Goals as goal

pub returns : goal.returns
unfolding is_subset
returns c = refl
