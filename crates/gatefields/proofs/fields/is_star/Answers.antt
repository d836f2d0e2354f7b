-- `is_star`: one comparison of bytes.
use Rattle.gates.specs.Kinds.{is_star}
use Rattle.gatefields.proofs.fields.is_star.Goals as goal

pub returns : goal.returns
unfolding is_star
returns c = rw (c.same.ensures, c.same-arg-1.given.1)
