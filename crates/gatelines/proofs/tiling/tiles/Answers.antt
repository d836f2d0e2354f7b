-- `tiles`: each combination is held once; more quadrants than combinations cannot tile.
use Rattle.std.proofs.Common.{◌∙◌, ◌^◌, ◌<◌, ap, sym, arith, rules, tests}
use borrow.Author.Tests.{lt-leb}
use Rattle.text.specs.Lines.{fields}
use Rattle.plans.specs.Indices.{all}
use Rattle.plans.proofs.IteratorLaws.{all_in_range}
use Rattle.gates.specs.Quads.{divider_count, quadrant_count}
use Rattle.gates.specs.Tiling.{held_once, tiles}
use Rattle.gates.proofs.TilingLaws.{many_fail}
use Rattle.gatelines.proofs.tiling.tiles.Goals as goal

pub returns-then-quadrant_count-n : goal.returns-then-quadrant_count-n
unfolding tiles
returns-then-quadrant_count-n c =
    let test = held_once (fields c.args.line.now) in
    all_in_range test c.combinations-n.result _ _ _ (cc) c.all.ensures.ran (λ x b q k. search (rules, tests))
    ∙ ap (λ n. all test n) (c.combinations-n.ensures ∙ ap (λ d. 4 ^ d) c.divider_count.ensures.0)

pub returns-else-quadrant_count-n : goal.returns-else-quadrant_count-n
returns-else-quadrant_count-n c =
    let f = fields c.args.line.now in
    let h : 4 ^ divider_count f < quadrant_count f =
    rw (← c.divider_count.ensures.0, ← c.combinations-n.ensures, ← c.quadrant_count.ensures) (omega (arith, c.if-quadrant_count-n.false)) in
    lt-leb c.quadrant_count.result c.combinations-n.result (omega (arith, c.if-quadrant_count-n.false)) ∙ sym (many_fail f h)
