-- `shares_name` meets its contract.
use Rattle.std.proofs.Common.{rules, tests, ap, sym, ◌≡◌, ◌∙◌}
use Rattle.text.specs.Lines.{fields}
use Rattle.plans.specs.Indices.{any}
use Rattle.plans.proofs.IteratorLaws.{any_in_range}
use Rattle.linenames.proofs.SearchLaws.{shared_gate, shared_rest}
use Rattle.linenames.specs.Inner.LineNames.{shares_quadrant}
use Rattle.linenames.proofs.shares_name.Goals as goal

pub returns-then-gives_name : goal.returns-then-gives_name
returns-then-gives_name c =
    let field = c.field in
    shared_gate (fields c.args.line.now) (fields c.args.other.now) field.ensures c.gives_name.ensures c.if-gives_name.true

pub returns : goal.returns
unfolding shares_quadrant
returns c =
    let f = fields c.args.line.now in
    let g = fields c.args.other.now in
    let field = c.field in
    any_in_range (shares_quadrant f g) c.quad_count.result _ _ _ (cc) c.any.ensures.ran (λ x b q k. search (rules, tests))
    ∙ ap (any (shares_quadrant f g)) c.quad_count.ensures ∙ sym (shared_rest f g field.ensures c.gives_name.ensures c.if-gives_name.false)
