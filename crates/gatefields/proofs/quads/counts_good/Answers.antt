-- `counts_good`: each divider has at least one value.
use Rattle.std.proofs.Common.{rules, tests, leb, min, arith, ◌∙◌, ◌≡◌, refl}
use Rattle.text.specs.Lines.{fields}
use Rattle.gates.specs.Quads.{value_count}
use Rattle.plans.proofs.IndexLaws.{all_same}
use Rattle.plans.proofs.IteratorLaws.{all_in_range}
use Rattle.gatefields.proofs.quads.counts_good.Goals as goal

pub returns : goal.returns
returns c =
    let fs = fields c.args.line.now in
    all_in_range (λ t. leb 1 (value_count fs (min t 3))) c.args.d _ _ _ (cc) c.all.ensures.ran (λ x b q k. search (rules, tests))
    ∙ all_same (λ t. leb 1 (value_count fs (min t 3))) (λ t. leb 1 (value_count fs t)) c.args.d
    (λ t h. let e : min t 3 ≡ t = omega (arith, h, c.requires) in rw e refl)
