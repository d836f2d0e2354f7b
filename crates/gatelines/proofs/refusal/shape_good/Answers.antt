-- `shape_good`: a quad line has its layout, another the length of its steps' body.
use Rattle.gatelines.proofs.refusal.shape_good.Goals as goal

pub returns-then-is_quad : goal.returns-then-is_quad
returns-then-is_quad c = rw (← c.is_quad.ensures, c.if-is_quad.true) c.layout_good.ensures

pub returns : goal.returns
returns c = rw (← c.is_quad.ensures, c.if-is_quad.false, c.is_length.ensures, c.step_kind.ensures)
