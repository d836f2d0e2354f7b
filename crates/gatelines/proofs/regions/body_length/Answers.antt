-- `body_length`: three words for each divider of a quad line, and the fields behind the parent of any other.
use Rattle.gates.specs.Inner.Regions.{body_length}
use Rattle.gatelines.proofs.regions.body_length.Goals as goal

pub returns-then-is_quad : goal.returns-then-is_quad
unfolding body_length
returns-then-is_quad c =
    rw (← c.kind_of.ensures, ← c.is_quad.ensures, c.if-is_quad.true, c.divider_count.ensures.0)

pub returns : goal.returns
unfolding body_length
returns c =
    rw (
      ← c.kind_of.ensures,
      ← c.is_quad.ensures,
      c.if-is_quad.false,
      c.saturating_sub.ensures,
      c.field_count.ensures,
    )
