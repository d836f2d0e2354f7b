-- `field`: field k of the line is that field of its rest from a on, counted from those passed.
use mathlib.Core.Path.{◌≡◌, sym, ◌∙◌}
use Prim.Native.Nat.{◌+◌, ◌-◌, ◌≤◌}
use native.Mathlib.Omega.{arith}
use borrow.Author.Rules.{rules}
use lib.ListN.{length}
use Rattle.text.proofs.LinesLaws.{find_from_lem, found_inside, field_next, field_none, field_here}
use Rattle.text.proofs.lines.field.Goals as goal
use Rattle.text.proofs.lines.field.Goals.{After-find-e, After-find-e-2}

inside : (c : After-find-e) → c.find-e.result ≤ length c.args.line.now
inside c = found_inside _ _ 9 c.find-e.ensures c.loop.invariant.0

inside-2 : (c : After-find-e-2) → c.find-e-2.result ≤ length c.args.line.now
inside-2 c = found_inside _ _ 9 c.find-e-2.ensures c.loop.invariant.0

pub loop-init : goal.loop-init
loop-init c = search rules

pub returns-then-e-line : goal.returns-then-e-line
returns-then-e-line c =
    let loop = c.loop in
    field_none _ loop.a _ (c.args.k - loop.counter) c.find-e.ensures (omega arith) loop.invariant.0 c.if-e-line.true
    ∙ sym loop.invariant.1

pub overflow_add-a : goal.overflow_add-a
overflow_add-a c = let h = inside (goal.at.overflow_add-a c).After-find-e in search rules

pub loop-preserved : goal.loop-preserved
loop-preserved c =
    let h = inside (goal.at.loop-preserved c).After-find-e in
    let loop = c.loop in
    let line = c.args.line.now in
    let left = c.args.k - loop.counter in
    let e : left - 1 ≡ c.args.k - (loop.counter + 1) = omega arith in
    (omega arith, loop.invariant.1 ∙ rw e at (field_next line loop.a _ left c.find-e.ensures (omega arith) (omega arith)))

pub slice_bounds-result-count-2 : goal.slice_bounds-result-count-2
slice_bounds-result-count-2 c = omega (arith, find_from_lem c.args.line.now c.loop.a 9)

pub slice_bounds-result-start-2 : goal.slice_bounds-result-start-2
slice_bounds-result-start-2 c =
    let h = slice_bounds-result-count-2 c in
    let i = inside-2 c in
    search rules

pub slice_bounds-result-end-2 : goal.slice_bounds-result-end-2
slice_bounds-result-end-2 c = let i = inside-2 c in search rules

pub returns : goal.returns
returns c =
    field_here _ c.loop.a _ (c.args.k - c.loop.counter) c.find-e-2.ensures (omega arith) c.loop.invariant.0 ∙ sym c.loop.invariant.1
