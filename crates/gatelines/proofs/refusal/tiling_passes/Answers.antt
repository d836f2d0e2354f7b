-- `tiling_passes`: only a quad line is asked to tile.
use Rattle.gatelines.proofs.refusal.tiling_passes.Goals as goal

pub returns-then-is_quad : goal.returns-then-is_quad
returns-then-is_quad c = rw (← c.is_quad.ensures, c.if-is_quad.true) c.tiles.ensures

pub returns : goal.returns
returns c = rw (← c.is_quad.ensures, c.if-is_quad.false)
