-- `is_dims`.
use Rattle.tables.specs.Head.{is_dims}
use Rattle.heads.proofs.is_dims.Goals as goal

pub returns : goal.returns
unfolding is_dims
returns c = c.same.ensures
