-- `is_combination`: each interval is one of its divider.
use Rattle.std.proofs.Common.{◌≡◌, ◌∙◌, refl, ap, leb, min, arith, rules, tests}
use Rattle.text.specs.Lines.{fields}
use Rattle.plans.specs.Indices.{all}
use Rattle.plans.proofs.IndexLaws.{all_same}
use Rattle.plans.proofs.IteratorLaws.{all_in_range}
use Rattle.gates.specs.Quads.{value_count}
use Rattle.gates.specs.Tiling.{is_combination, interval_in}
use Rattle.gatelines.proofs.tiling.is_combination.Goals as goal

pub returns : goal.returns
unfolding is_combination
returns c =
    let fs = fields c.args.line.now in
    let a = c.args in
    let n = c.divider_count.result in
    all_in_range (λ t. leb (interval_in a.c t) (value_count fs (min t 3))) n _ _ _ (cc) c.all.ensures.ran (λ x b q k. search (rules, tests))
    ∙ all_same (λ t. leb (interval_in a.c t) (value_count fs (min t 3))) (λ t. leb (interval_in a.c t) (value_count fs t)) n
    (λ t h. let e : min t 3 ≡ t = omega (arith, h, c.divider_count.ensures.1) in rw e refl)
    ∙ ap (λ m. all (λ t. leb (interval_in a.c t) (value_count fs t)) m) c.divider_count.ensures.0
