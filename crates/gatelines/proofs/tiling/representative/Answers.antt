-- `representative`: a quadrant that is there has a field for each divider.
use Rattle.gatelines.proofs.LineLaws.{cond_lt, quadrant-below}
use borrow.Author.Rules.{rules}
use Rattle.gatelines.proofs.tiling.representative.Goals as goal

pub overflow_add-quadrant_at : goal.overflow_add-quadrant_at
overflow_add-quadrant_at c =
    let args = c.args in
    let e = cond_lt _ _ _ _ _ c.requires.0 c.quadrant_at.ensures in
    let h = quadrant-below args.line.now args.q c.requires.0 in
    search rules

pub overflow_add-quadrant_at-2 : goal.overflow_add-quadrant_at-2
overflow_add-quadrant_at-2 c =
    let args = c.args in
    let e = cond_lt _ _ _ _ _ c.requires.0 c.quadrant_at.ensures in
    let h = quadrant-below args.line.now args.q c.requires.0 in
    search rules

pub returns : goal.returns
returns c = let e = cond_lt _ _ _ _ _ c.requires.0 c.quadrant_at.ensures in rw (c.field.ensures, e)
