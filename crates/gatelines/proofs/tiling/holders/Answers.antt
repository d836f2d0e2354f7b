-- `holders`: the quadrants that hold the combination.
use Rattle.std.proofs.Common.{◌∙◌, ap, rules, tests}
use Rattle.text.specs.Lines.{fields}
use Rattle.plans.specs.Indices.{how_many}
use Rattle.plans.proofs.IteratorLaws.{how_many_in_range}
use Rattle.gates.specs.Tiling.{holds_combination}
use Rattle.gatelines.proofs.tiling.holders.Goals as goal

pub returns : goal.returns
returns c =
    let test = holds_combination (fields c.args.line.now) c.args.c in
    how_many_in_range test c.quadrant_count.result _ (cc) c.count.ensures.ran c.filter.ensures.closure (λ x b q k. search (rules, tests))
    ∙ ap (λ n. how_many test n) c.quadrant_count.ensures
