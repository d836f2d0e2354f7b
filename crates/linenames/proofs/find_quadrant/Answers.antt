-- `find_quadrant` meets its contract: the quadrants of a quadrant gate are its regions, and another gate has none.
use Rattle.std.proofs.Common.{sym, ap, cond, ◌≡◌, ◌∙◌}
use Rattle.gates.specs.Kinds.{is_quad}
use Rattle.linenames.proofs.SearchLaws.{quadrant-found}
use Rattle.linenames.specs.Inner.LineNames.{region_named}
use Rattle.text.specs.Lines.{fields}
use Rattle.linenames.proofs.find_quadrant.Goals as goal

pub returns-then-is_quad : goal.returns-then-is_quad
returns-then-is_quad c =
    let f = fields c.args.line.now in
    let x = c.args.x.now in
    let quad = ap is_quad (sym c.kind_of.ensures) ∙ sym c.is_quad.ensures ∙ c.if-is_quad.true in
    c.find_region.ensures ∙ sym (ap (λ b. cond b (region_named f x) 0) quad) ∙ quadrant-found f x

pub returns-else-is_quad : goal.returns-else-is_quad
returns-else-is_quad c =
    let f = fields c.args.line.now in
    let x = c.args.x.now in
    let quad = ap is_quad (sym c.kind_of.ensures) ∙ sym c.is_quad.ensures ∙ c.if-is_quad.false in
    sym (ap (λ b. cond b (region_named f x) 0) quad) ∙ quadrant-found f x
