-- `is_none`: one comparison of bytes.
use Rattle.gates.specs.Kinds.{is_none}
use Rattle.gatefields.proofs.fields.is_none.Goals as goal

pub returns : goal.returns
unfolding is_none
returns c = rw (c.same.ensures, c.same-arg-1.given.1)
