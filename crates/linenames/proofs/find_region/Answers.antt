-- `find_region` meets its contract.
use Rattle.std.proofs.Common.{rules, tests, ap, refl, ◌≡◌, ◌∙◌, Bool, true, false, not}
use Rattle.text.specs.Lines.{fields}
use Rattle.text.specs.Bytes.{same}
use Rattle.gates.specs.Inner.Regions.{region_name}
use Rattle.plans.specs.Indices.{first_bad}
use Rattle.plans.proofs.IteratorLaws.{first_in_range}
use Rattle.linenames.specs.Inner.LineNames.{other_region, region_named}
use Rattle.linenames.proofs.find_region.Goals as goal

not-twice : (b : Bool) → b ≡ not (not b)
not-twice true = refl
not-twice false = refl

pub returns : goal.returns
unfolding region_named other_region
returns c =
    let f = fields c.args.line.now in
    let x = c.args.x.now in
    c.unwrap_or.ensures
    ∙ first_in_range (λ q. same x (region_name f q)) c.region_count-n.result _ _ _ (other_region f x)
    (λ q. not-twice (same x (region_name f q))) (cc) c.find.ensures.ran
    (λ x b q k. search (rules, tests))
    ∙ ap (λ n. first_bad (other_region f x) 0 n) c.region_count-n.ensures
