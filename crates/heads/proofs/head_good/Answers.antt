-- `head_good`.
use Rattle.heads.proofs.HeadLaws.{sized}
use Rattle.tables.specs.Head.{head_fields, dimensions, head_good}
use Rattle.text.specs.Lines.{fields}
use Rattle.heads.proofs.head_good.Goals as goal

pub returns : goal.returns
unfolding head_good head_fields dimensions
returns c =
    rw (
      c.is_dims.ensures,
      c.field.ensures,
      sized (fields c.head_line-head.result.now) c.field_count-n.ensures,
      c.all_names.ensures,
      c.all_different.ensures,
      c.head_line-head.ensures,
    )
