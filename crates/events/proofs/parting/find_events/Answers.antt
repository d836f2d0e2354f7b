-- `find_events`: none of the lines before `at` is `events`.
use mathlib.Core.Path.{◌≡◌, sym, ◌∙◌}
use mathlib.Core.Bool.{Bool}
use mathlib.Core.List.{List}
use Prim.Native.Nat.{ℕ, ◌+◌, ◌-◌, ◌≤◌}
use native.Mathlib.Omega.{arith}
use lib.Dec.{eqb}
use lib.Pointwise.{pointwise}
use Rattle.text.specs.Bytes.{bytes}
use Rattle.text.specs.Inner.Places.{line_from}
use Rattle.text.proofs.LinesLaws.{find_from_lem, found_inside}
use Rattle.events.proofs.PartingLaws.{is_opening, opening-found, opening_missing, same_as}
use Rattle.events.proofs.SearchLaws.{passed_none, passed-more}
use Rattle.events.proofs.parting.find_events.Goals as goal

tested : (s : List ℕ) (a : ℕ) {l t : List ℕ} {b : Bool} → l ≡ line_from s a → t ≡ bytes "events" → b ≡ pointwise eqb l t → is_opening (line_from s a) ≡ b
tested s a e f g = sym (rw (e, f, same_as (line_from s a) (bytes "events")) at g)

one_more : (n : ℕ) → 1 ≤ n → n + 1 - 1 ≡ n - 1 + 1
one_more n h = omega arith

pub loop-at-init : goal.loop-at-init
loop-at-init c = (omega arith, passed_none _ _)

pub returns-then-eq-clause-opening : goal.returns-then-eq-clause-opening
returns-then-eq-clause-opening c =
    let loop = c.loop-at in
    let s = c.args.input.now in
    let e : loop.line - 1 + 1 ≡ loop.line = omega (arith, loop.invariant.0) in
    rw e at (opening-found s loop.at (loop.line - 1) loop.invariant.1 c.loop-at-test.true
    (tested s loop.at c.line_from.ensures c.as_slice.ensures c.eq.ensures ∙ c.if-eq.true))

pub overflow_add-at : goal.overflow_add-at
overflow_add-at c = omega (arith, found_inside c.args.input.now c.loop-at.at 10 c.find-at.ensures (omega arith))

pub loop-at-smaller : goal.loop-at-smaller
loop-at-smaller c = omega (arith, find_from_lem c.args.input.now c.loop-at.at 10)

pub loop-at-preserved : goal.loop-at-preserved
loop-at-preserved c =
    let loop = c.loop-at in
    let s = c.args.input.now in (
      omega arith,
      rw (one_more loop.line loop.invariant.0) (passed-more is_opening s loop.at (loop.line - 1) loop.invariant.1 _ c.find-at.ensures c.loop-at-test.true
          (tested s loop.at c.line_from.ensures c.as_slice.ensures c.eq.ensures ∙ c.if-eq.false)),
    )

pub returns-clause-opening : goal.returns-clause-opening
returns-clause-opening c = opening_missing c.args.input.now c.loop-at.at (c.loop-at.line - 1) c.loop-at.invariant.1 c.loop-at-test.false
