-- `quad_count` meets its contract: a line of another kind names no quadrants.
use Rattle.linenames.specs.Inner.LineNames.{quad_count}
use Rattle.linenames.proofs.quad_count.Goals as goal

pub returns-then-is_quad : goal.returns-then-is_quad
unfolding quad_count
returns-then-is_quad c =
    let isquad = c.is_quad.ensures in
    let kind = c.kind_of.ensures in
    rw (c.quadrant_count.ensures, ← kind, ← isquad, c.if-is_quad.true)

pub returns-else-is_quad : goal.returns-else-is_quad
unfolding quad_count
returns-else-is_quad c =
    let isquad = c.is_quad.ensures in
    let kind = c.kind_of.ensures in
    rw (← kind, ← isquad, c.if-is_quad.false)
