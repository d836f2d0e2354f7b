-- `quadrant_count`: the contracts of the calls, put together.
use Rattle.gates.specs.Quads.{quadrant_count}
use Rattle.gatefields.proofs.quads.quadrant_count.Goals as goal

pub returns : goal.returns
unfolding quadrant_count
returns c =
    rw (c.divider_count.ensures.0, c.saturating_sub.ensures, c.quadrants_at.ensures.0, c.field_count.ensures)
