-- `count_lists`: the lists before `at` are counted and their numbers written.
use mathlib.Core.Path.{sym, ◌∙◌, ap}
use mathlib.Core.List.{List}
use Prim.Native.Nat.{ℕ, ◌+◌, ◌*◌, ◌<◌}
use native.Mathlib.Omega.{arith}
use borrow.Author.Rules.{rules}
use lib.ListN.{length, drop, length-drop}
use lib.Seq.{length-take-le}
use Rattle.text.proofs.LinesLaws.{find_from_lem}
use Rattle.text.proofs.OutputLaws.{over-length}
use Rattle.counter.specs.Counting.{count_of}
use Rattle.events.specs.Parting.{table_part, table_end}
use Rattle.events.specs.Listing.{values}
use Rattle.events.proofs.ListsLaws.{part-is-table}
use Rattle.sheet.proofs.CountLaws.{done_none, events-near, list-good, lists-room, done_more, all-counted}
use Rattle.sheet.proofs.counting.count_lists.Goals as goal

pub loop-at-init : goal.loop-at-init
loop-at-init c =
    let a = c.args in
    let good = c.requires.2 in
    ((good.0, rw (c.requires.1, c.no_tally-total.ensures) (done_none good.0 a.plan.now a.input.now a.columns.now c.requires.0 good.1)), c.requires.3)

pub overflow_add-at : goal.overflow_add-at
overflow_add-at c =
    let h : c.loop-at.at + 7 < 65600 = omega (arith, c.requires.0) in
    search rules

pub overflow_add-begin : goal.overflow_add-begin
overflow_add-begin c =
    let a = c.args in
    let inv = c.loop-at.invariant.0 in
    let near = events-near inv.0 a.plan.now a.input.now a.columns.now c.requires.0
    c.loop-at.at c.loop-at.lists inv.1 c.loop-at-test.true in
    let h : c.find-begin.result + 1 < 65600 = omega (arith, near, c.find-begin.ensures, c.requires.0) in
    search rules

pub slice_bounds-count_list-end : goal.slice_bounds-count_list-end
slice_bounds-count_list-end c =
    sym (length-take-le c.split-end.result.table c.rest_from-part.result.now c.split-end.ensures.within)

pub count_list-tally-requires : goal.count_list-tally-requires
count_list-tally-requires c =
    let a = c.args in
    let inv = c.loop-at.invariant in
    let part = part-is-table c.rest_from-part.result.now c.split-end.ensures.parted in
    let behind = c.rest_from-part.ensures ∙ ap (λ (k : ℕ). drop (k + 1) a.input.now) c.find-begin.ensures in
    let is = part.0 ∙ ap table_part behind in (
      omega (
        arith,
        length-take-le c.split-end.result.table c.rest_from-part.result.now c.split-end.ensures.within,
        c.split-end.ensures.within,
        ap length c.rest_from-part.ensures,
        length-drop (c.find-begin.result + 1) a.input.now,
        c.requires.0,
      ),
      inv.1,
      list-good inv.0.0 a.plan.now a.input.now a.columns.now c.requires.0 c.loop-at.at c.loop-at.lists inv.0.1 c.loop-at-test.true is,
    )

pub overflow_mul-lists : goal.overflow_mul-lists
overflow_mul-lists c =
    let a = c.args in
    let inv = c.loop-at.invariant.0 in
    let few = lists-room inv.0 a.plan.now a.input.now a.columns.now c.requires.0
    c.loop-at.at c.loop-at.lists inv.1 c.loop-at-test.true in
    let h : c.loop-at.lists * 67 < 1000000 = omega (arith, few) in
    search rules

pub put_numbers_from-requires : goal.put_numbers_from-requires
put_numbers_from-requires c = c.count_list-tally.ensures.1

pub overflow_add-lists : goal.overflow_add-lists
overflow_add-lists c =
    let a = c.args in
    let inv = c.loop-at.invariant.0 in
    let few = lists-room inv.0 a.plan.now a.input.now a.columns.now c.requires.0
    c.loop-at.at c.loop-at.lists inv.1 c.loop-at-test.true in
    let h : c.loop-at.lists + 1 < 1000000 = omega (arith, few) in
    search rules

pub overflow_add-at-in-loop-at : goal.overflow_add-at-in-loop-at
overflow_add-at-in-loop-at c =
    let a = c.args in
    let inv = c.loop-at.invariant.0 in
    let near = events-near inv.0 a.plan.now a.input.now a.columns.now c.requires.0
    c.loop-at.at c.loop-at.lists inv.1 c.loop-at-test.true in
    let h : c.find-begin.result + 1 + c.split-end.result.table < 200000 =
    omega (
      arith,
      near,
      c.find-begin.ensures,
      c.split-end.ensures.within,
      ap length c.rest_from-part.ensures,
      length-drop (c.find-begin.result + 1) a.input.now,
      c.requires.0,
    ) in
    search rules

pub loop-at-smaller : goal.loop-at-smaller
loop-at-smaller c =
    let a = c.args in
    omega (arith, c.find-begin.ensures, find_from_lem a.input.now (c.loop-at.at + 7) 10)

pub loop-at-preserved : goal.loop-at-preserved
loop-at-preserved c =
    let a = c.args in
    let inv = c.loop-at.invariant.0 in
    let part = part-is-table c.rest_from-part.result.now c.split-end.ensures.parted in
    let behind = c.rest_from-part.ensures ∙ ap (λ (k : ℕ). drop (k + 1) a.input.now) c.find-begin.ensures in
    let is = part.0 ∙ ap table_part behind in
    let tally-is = c.count_list-tally.ensures.0 ∙ ap (λ (t : List ℕ). (count_of a.plan.now (values t)).tally) is in
    let begin-is = ap (λ (k : ℕ). k + 1) c.find-begin.ensures in
    let end_is = part.1 ∙ ap table_end behind in (
      (
        inv.0,
        done_more inv.0 a.plan.now a.input.now a.columns.now c.requires.0 c.loop-at.at c.loop-at.lists inv.1 c.loop-at-test.true
            tally-is c.count_list-tally.ensures.1 c.sum-total.ensures c.put_numbers_from.ensures.1 begin-is end_is,
      ),
      c.count_list-tally.ensures.2,
    )

pub shape_of-list : goal.shape_of-list
shape_of-list c = c.loop-at.invariant.1 ∙ sym c.requires.3

pub shape_of-columns : goal.shape_of-columns
shape_of-columns c = ap length c.loop-at.invariant.0.1.written ∙ over-length _ _

pub returns : goal.returns
returns c =
    let a = c.args in
    let inv = c.loop-at.invariant.0 in
    all-counted inv.0 a.plan.now a.input.now a.columns.now c.requires.0 c.loop-at.at c.loop-at.lists inv.1 c.loop-at-test.false
