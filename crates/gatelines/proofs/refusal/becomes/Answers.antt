-- `becomes`: by the number of the kind of the line's steps.
use Rattle.gatelines.proofs.refusal.becomes.Goals as goal

pub returns : goal.returns
returns c = rw (c.kind_number.ensures, c.step_kind.ensures)
