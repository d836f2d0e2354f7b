-- `own_different` meets its contract.
use Rattle.std.proofs.Common.{rules, tests, ap, ◌≡◌, ◌∙◌}
use Rattle.text.specs.Lines.{fields}
use Rattle.plans.specs.Indices.{all}
use Rattle.plans.proofs.IteratorLaws.{all_in_range}
use Rattle.linenames.specs.Inner.LineNames.{new_quadrant, own_different}
use Rattle.linenames.proofs.own_different.Goals as goal

pub returns : goal.returns
unfolding own_different
returns c =
    let f = fields c.args.line.now in
    all_in_range (new_quadrant f) c.quad_count.result _ _ _ (cc) c.all.ensures.ran (λ x b q k. search (rules, tests))
    ∙ ap (all (new_quadrant f)) c.quad_count.ensures
