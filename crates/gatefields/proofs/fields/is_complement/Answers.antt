-- `is_complement`: an empty field is none; of any other the first byte decides.
use Rattle.std.proofs.Common.{rules, tests}
use Rattle.gates.specs.Kinds.{is_complement}
use Rattle.gatefields.proofs.fields.is_complement.Goals as goal

pub returns : goal.returns
unfolding is_complement
returns c = search (rules, tests)
