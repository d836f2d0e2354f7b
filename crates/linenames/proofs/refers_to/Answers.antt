-- `refers_to` meets its contract.
use Rattle.linenames.proofs.SearchLaws.{passes-not, passes_still, refers-found, refers-none}
use Rattle.linenames.specs.Inner.LineNames.{passes_by}
use Rattle.text.specs.Lines.{fields}
use Rattle.plans.proofs.IndexLaws.{first_more, first_stop, first_end}
use borrow.Author.Rules.{rules}
use mathlib.Core.Path.{refl, ◌∙◌}
use Rattle.linenames.proofs.refers_to.Goals as goal

pub loop-k-init : goal.loop-k-init
loop-k-init c = (search rules, search rules, refl)

pub returns-then-has_reference-names_region : goal.returns-then-has_reference-names_region
returns-then-has_reference-names_region c =
    let reference = c.reference in
    let has-reference = c.has_reference in
    let loop-test = c.loop-k-test in
    let head = c.loop-k in
    let reference-end = c.reference_end-k-end in
    let args = c.args in
    let f = fields args.line.now in
    let g = fields args.other.now in
    let j = head in
    refers-found f g reference-end.ensures.0 (j.invariant.2 ∙ first_stop (passes_by f g) _ j.k loop-test.true
    (passes-not f g j.k has-reference.ensures reference.ensures c.names_region.ensures c.if-has_reference-names_region.true)) loop-test.true

pub loop-k-preserved : goal.loop-k-preserved
loop-k-preserved c =
    let reference = c.reference in
    let has-reference = c.has_reference in
    let loop-test = c.loop-k-test in
    let head = c.loop-k in
    let args = c.args in
    let f = fields args.line.now in
    let g = fields args.other.now in
    let j = head in (
      search rules,
      search rules,
      j.invariant.2 ∙ first_more (passes_by f g) _ j.k loop-test.true
          (passes_still f g j.k has-reference.ensures reference.ensures c.names_region.ensures c.if-has_reference-names_region.false),
    )

pub returns : goal.returns
returns c =
    let reference-end = c.reference_end-k-end in
    let f = fields c.args.line.now in
    let g = fields c.args.other.now in
    let j = c.loop-k in
    refers-none f g reference-end.ensures.0 (j.invariant.2 ∙ first_end (passes_by f g) _ j.k c.loop-k-test.false) c.loop-k-test.false
