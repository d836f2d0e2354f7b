-- `quadrant_name` meets its contract.
use Rattle.linenames.proofs.SearchLaws.{quadrant-read}
use Rattle.text.specs.Lines.{fields}
use mathlib.Core.Path.{◌∙◌}
use Rattle.linenames.proofs.quadrant_name.Goals as goal

pub returns : goal.returns
returns c =
    c.field.ensures ∙ quadrant-read (fields c.args.line.now) c.args.q _ c.quadrant_at.ensures
