-- `put_input`: the table's refusal, else 31 of the first wrong column line, else 23 at the lowest bad line, else the sheet of the lists that were counted.
use mathlib.Core.Path.{◌≡◌, refl, sym, ◌∙◌, ap}
use mathlib.Core.Bool.{true}
use native.Mathlib.Omega.{arith}
use lib.ListN.{take}
use lib.Seq.{length-take-le}
use Rattle.plans.specs.Refusals.{Verdict}
use Rattle.heads.specs.Answers.{columns_said}
use Rattle.compiler.proofs.PlanLaws.{dims-read}
use Rattle.events.specs.Listing.{ragged_line, column_lines, value_lists}
use Rattle.events.proofs.ListingLaws.{above-is, above-none}
use Rattle.events.proofs.ListsLaws.{lists-few, part-is-table}
use Rattle.tallies.proofs.SumLaws.{within_more}
use Rattle.sheet.proofs.InputLaws.{written-accepted, written-regions, written-inside, written-plan, refused-printed, input-printed}
use Rattle.sheet.proofs.InputLaws.{wrong-printed, ragged-printed, lists-printed}
use Rattle.sheet.proofs.put_input.Goals as goal

pub slice_bounds-table-end : goal.slice_bounds-table-end
slice_bounds-table-end c = sym (length-take-le c.split-end.result.table c.args.input.now c.split-end.ensures.within)

pub returns-in-Err : goal.returns-in-Err
returns-in-Err c =
    let i = c.args.input.now in
    let b = take c.split-end.result.table i in
    let t = part-is-table i c.split-end.ensures.parted in
    let n = dims-read b c.head_line.ensures c.name_count.ensures in
    let printed =
    refused-printed b c.args.plan.now _ c.requires.1 c.in-Err.ensures (column_lines true i) (ragged_line true true c.name_count.result i)
    (value_lists i)
    ∙ input-printed i b c.requires.0 t.0 n in
    rw (sym printed) c.put_refusal.ensures

pub returns-in-Err-test_lists : goal.returns-in-Err-test_lists
returns-in-Err-test_lists c =
    let i = c.args.input.now in
    let b = take c.split-end.result.table i in
    let t = part-is-table i c.split-end.ensures.parted in
    let n = dims-read b c.head_line.ensures c.name_count.ensures in
    let accepted = written-accepted b c.args.plan.now _ c.requires.1 c.in-Ok.ensures in
    let printed =
    wrong-printed i b c.requires.0 t.0 accepted (ragged_line true true c.name_count.result i) c.in-Err-test_lists.ensures
    ∙ input-printed i b c.requires.0 t.0 n in
    rw (sym printed) c.put_refusal-in-Err-test_lists.ensures

pub returns-in-Some : goal.returns-in-Some
returns-in-Some c =
    let i = c.args.input.now in
    let right = ap columns_said (sym c.in_default.is) ∙ c.test_lists.ensures in
    let b = take c.split-end.result.table i in
    let t = part-is-table i c.split-end.ensures.parted in
    let n = dims-read b c.head_line.ensures c.name_count.ensures in
    let accepted = written-accepted b c.args.plan.now _ c.requires.1 c.in-Ok.ensures in
    let bad = above-is (ragged_line true true c.name_count.result i) (sym c.ragged_line-ragged.ensures ∙ c.in-Some.is) in
    let printed =
    ragged-printed i b c.requires.0 t.0 accepted (ragged_line true true c.name_count.result i) right bad.0 bad.1
    ∙ input-printed i b c.requires.0 t.0 n in
    rw (sym printed) c.put_refused.ensures

pub slice_bounds-count_lists-end : goal.slice_bounds-count_lists-end
slice_bounds-count_lists-end c =
    written-inside (take c.split-end.result.table c.args.input.now) c.args.plan.now _ c.requires.1 c.in-Ok.ensures

pub slice_bounds-count_lists-end-2 : goal.slice_bounds-count_lists-end-2
slice_bounds-count_lists-end-2 c =
    sym (length-take-le _ _ (written-inside (take c.split-end.result.table c.args.input.now) c.args.plan.now _ c.requires.1 c.in-Ok.ensures))

pub count_lists-counts-requires : goal.count_lists-counts-requires
count_lists-counts-requires c =
    let i = c.args.input.now in
    let t = part-is-table i c.split-end.ensures.parted in
    let good = above-none (ragged_line true true c.name_count.result i) (sym c.ragged_line-ragged.ensures ∙ c.in_default-ragged.is) in
    (c.requires.0, t.1, (c.name_count.result, good), c.requires.2)

pub invariant_of-put_sheet : goal.invariant_of-put_sheet
invariant_of-put_sheet c = omega (arith, c.count_lists-counts.ensures.lists_are, lists-few c.args.input.now, c.requires.0)

pub put_sheet-requires : goal.put_sheet-requires
put_sheet-requires c =
    let i = c.args.input.now in
    let b = take c.split-end.result.table i in
    let accepted = written-accepted b c.args.plan.now _ c.requires.1 c.in-Ok.ensures in (
      ap (λ (v : Verdict). v.number) accepted,
      written-regions b c.args.plan.now _ c.requires.1 c.in-Ok.ensures,
      within_more (omega arith) c.count_lists-counts.ensures.total_most,
    )

pub returns : goal.returns
returns c =
    let i = c.args.input.now in
    let right = ap columns_said (sym c.in_default.is) ∙ c.test_lists.ensures in
    let b = take c.split-end.result.table i in
    let t = part-is-table i c.split-end.ensures.parted in
    let n = dims-read b c.head_line.ensures c.name_count.ensures in
    let accepted = written-accepted b c.args.plan.now _ c.requires.1 c.in-Ok.ensures in
    let plan = written-plan b c.args.plan.now _ c.requires.1 c.in-Ok.ensures in
    let good = above-none (ragged_line true true c.name_count.result i) (sym c.ragged_line-ragged.ensures ∙ c.in_default-ragged.is) in
    let printed =
    lists-printed i b c.requires.0 t.0 accepted (ragged_line true true c.name_count.result i) right good n refl
    c.args.columns.now _ c.requires.3 c.count_lists-counts.result (rw plan at c.count_lists-counts.ensures)
    ∙ input-printed i b c.requires.0 t.0 n in
    rw (sym printed) c.put_sheet.ensures
