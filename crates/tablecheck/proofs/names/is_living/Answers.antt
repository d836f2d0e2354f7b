-- `is_living` meets its contract: each field from 2 on has no reference, or one to a region.
use Rattle.std.proofs.Common.{refl, ◌∙◌, rules, arith}
use Rattle.std.proofs.lemmas.Iterator.{YieldsList-from_range}
use Rattle.std.proofs.lemmas.Iterator.Search.{all_from_yields_List}
use borrow.Author.Tests.{tests}
use Rattle.tablecheck.proofs.ReferenceLaws.{passes, living_in}
use Rattle.tablecheck.proofs.names.is_living.Goals as goal

pub returns : goal.returns
returns c =
    let table = c.args.table.now in
    let t = table.text.now in
    let s = table.starts in
    let n = table.gates in
    let few = c.requires.few in
    let inside = c.requires.gate in
    all_from_yields_List (passes t s n c.args.i few inside c.line-line.ensures c.region_total-total.ensures) _ _ _ c.all.ensures.ran
    (YieldsList-from_range 2 c.reference_end.result _ (cc) refl) (λ x b q k. search (rules, tests))
    ∙ living_in t s n c.args.i few inside c.line-line.ensures c.region_total-total.ensures c.reference_end.ensures.0 (omega arith)
