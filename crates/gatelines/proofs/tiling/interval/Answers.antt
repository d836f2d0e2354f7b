-- `interval`: how many of the values are at most x.
use Rattle.std.proofs.Common.{◌≡◌, ◌∙◌, ap, min, arith, rules, tests}
use lib.Signed.{le_z}
use Rattle.text.specs.Lines.{fields}
use Rattle.plans.specs.Indices.{how_many}
use Rattle.plans.proofs.IndexLaws.{how_many_le}
use Rattle.plans.proofs.IteratorLaws.{how_many_in_range}
use Rattle.gates.specs.Quads.{value_count, divider_value}
use Rattle.gates.specs.Tiling.{interval}
use Rattle.gatelines.proofs.tiling.interval.Goals as goal

pub returns : goal.returns
unfolding interval
returns c =
    let a = c.args in
    let fs = fields a.line.now in
    let e : min a.t 3 ≡ a.t = omega (arith, c.requires) in
    let n : c.value_count.result ≡ value_count fs a.t = c.value_count.ensures.0 ∙ ap (λ t. value_count fs t) e in
    let r : c.count.result ≡ how_many (λ j. le_z (divider_value fs a.t j) a.x) c.value_count.result =
    how_many_in_range (λ j. le_z (divider_value fs a.t j) a.x) c.value_count.result _ (cc) c.count.ensures.ran c.filter.ensures.closure
    (λ x b q k. search (rules, tests)) in (
      r ∙ ap (λ m. how_many (λ j. le_z (divider_value fs a.t j) a.x) m) n,
      omega (arith, r, how_many_le (λ j. le_z (divider_value fs a.t j) a.x) c.value_count.result, c.value_count.ensures.1),
    )
