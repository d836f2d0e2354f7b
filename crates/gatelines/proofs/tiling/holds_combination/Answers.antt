-- `holds_combination`: each interval is held.
use Rattle.std.proofs.Common.{◌∙◌, ap, rules, tests}
use Rattle.text.specs.Lines.{fields}
use Rattle.plans.specs.Indices.{all}
use Rattle.plans.proofs.IteratorLaws.{all_in_range}
use Rattle.gates.specs.Tiling.{holds_combination, holds_interval, interval_in}
use Rattle.gatelines.proofs.tiling.holds_combination.Goals as goal

pub returns : goal.returns
unfolding holds_combination
returns c =
    let fs = fields c.args.line.now in
    let a = c.args in
    all_in_range (λ t. holds_interval fs a.q t (interval_in a.c t)) c.divider_count.result _ _ _ (cc) c.all.ensures.ran (λ x b q k. search (rules, tests))
    ∙ ap (λ n. all (λ t. holds_interval fs a.q t (interval_in a.c t)) n) c.divider_count.ensures.0
