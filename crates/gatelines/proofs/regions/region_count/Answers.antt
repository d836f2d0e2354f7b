-- `region_count`: the quadrants of a quad line, and one region of any other.
use Rattle.gates.specs.Inner.Regions.{region_count}
use Rattle.gatelines.proofs.regions.region_count.Goals as goal

pub returns-then-is_quad : goal.returns-then-is_quad
unfolding region_count
returns-then-is_quad c =
    rw (← c.kind_of.ensures, ← c.is_quad.ensures, c.if-is_quad.true, c.quadrant_count.ensures)

pub returns : goal.returns
unfolding region_count
returns c = rw (← c.kind_of.ensures, ← c.is_quad.ensures, c.if-is_quad.false)
