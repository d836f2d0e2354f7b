-- `head_line`.
use Rattle.heads.proofs.HeadLaws.{first-line}
use mathlib.Core.Path.{◌∙◌}
use Rattle.heads.proofs.head_line.Goals as goal

pub returns : goal.returns
returns c = c.line_from.ensures ∙ first-line c.args.text.now
