-- `run_end`: the edges up to the k-th vertex are passed, and the vertex before that one lies on the side of the height that the loop began on.
use mathlib.Core.Path.{sym, ◌∙◌}
use mathlib.Core.List.{List}
use Prim.Native.Nat.{ℕ, ◌+◌, ◌<◌}
use native.Mathlib.Omega.{arith}
use borrow.Author.Tests.{ne_eqb, not-false}
use lib.IntN.{ℤ, pos}
use lib.ListN.{length, get_or}
use lib.Signed.{lt_z}
use mir.Syntax.{w32}
use mir.Val.{SFits}
use mir.Facts.{to_z-of_z}
use Rattle.integers.proofs.Equality.{eqb-bits}
use Rattle.counter.specs.Inner.Walks.{Apart}
use Rattle.counter.proofs.PolygonLaws.{scale_fits, differs-beyond}
use Rattle.counter.proofs.WalkLaws.{before_in, apart_none, apart_more}
use Rattle.counter.proofs.polygon.run_end.Goals as goal
use Rattle.counter.proofs.polygon.run_end.Goals.{After-vertex_before, Start}

-- the vertices, and a height that is read fits
module _ (entry : Start) where
  abbrev v : List ℤ
  v = entry.args.v.now

  height : (k : ℕ) → SFits w32 (get_or v k (pos 0))
  height k = scale_fits (get_or v k (pos 0)) (entry.requires.0.on_scale k)

  none : Apart v entry.args.y entry.args.i entry.args.i
  none = apart_none v entry.requires.0.even entry.args.y entry.args.i entry.requires.1 (let l = entry.requires.2 in omega arith)

pub vertex_before-requires : goal.vertex_before-requires
vertex_before-requires c = let six = c.requires.0.three in (omega arith, c.requires.1)

-- the vertex before is there
room : (c : After-vertex_before) → c.vertex_before.result + 1 < length (v c.before)
room c =
    rw c.vertex_before.ensures (before_in (v c.before) c.args.i c.requires.0.three (let l = c.requires.2 in omega arith))

pub overflow_add-h : goal.overflow_add-h
overflow_add-h c = let r = room c in omega arith

pub offset_bounds-v-vertex_before : goal.offset_bounds-v-vertex_before
offset_bounds-v-vertex_before c = let r = room c in omega arith

pub bounds-v-vertex_before : goal.bounds-v-vertex_before
bounds-v-vertex_before c = room c

pub returns-then-h-y : goal.returns-then-h-y
returns-then-h-y c = none (goal.at.returns-then-h-y c).Start

pub loop-k-init : goal.loop-k-init
loop-k-init c =
    let entry = (goal.at.loop-k-init c).Start in
    let y = c.args.y in
    let j = c.vertex_before.result in
    let h = get_or (v entry) (j + 1) (pos 0) in
    let f = height entry (j + 1) in
    let g = c.ranges.y in
    let differ = sym (eqb-bits w32 h y f g) ∙ ne_eqb _ _ c.if-h-y.false in
    simp (to_z-of_z, f, g) (none entry, rw (← c.vertex_before.ensures) (differs-beyond h y differ))

pub overflow_add-k : goal.overflow_add-k
overflow_add-k c = let l = c.loop-k.invariant.0.to in omega arith

pub four_beyond-requires : goal.four_beyond-requires
four_beyond-requires c =
    (c.requires.0, c.loop-k-test.true)

pub returns-then-not-four_beyond : goal.returns-then-not-four_beyond
returns-then-not-four_beyond c =
    simp (to_z-of_z, c.ranges.y) at c.loop-k.invariant.0

pub overflow_add-k-in-loop-k : goal.overflow_add-k-in-loop-k
overflow_add-k-in-loop-k c = let l = c.loop-k-test.true in omega arith

pub loop-k-smaller : goal.loop-k-smaller
loop-k-smaller c = let l = c.loop-k-test.true in omega arith

pub loop-k-preserved : goal.loop-k-preserved
loop-k-preserved c =
    let entry = (goal.at.loop-k-preserved c).Start in
    let y = c.args.y in
    let k = c.loop-k.k in
    let h = get_or (v entry) (c.vertex_before.result + 1) (pos 0) in
    let f = height entry (c.vertex_before.result + 1) in
    let g = c.ranges.y in
    let inv = simp (to_z-of_z, f, g) at c.loop-k.invariant in
    let beyond-four = simp (to_z-of_z, f, g) at (sym c.four_beyond.ensures ∙ not-false _ c.if-not-four_beyond.false-raw) in
    simp (to_z-of_z, f, g)
    (apart_more (v entry) c.requires.0.even y (lt_z y h) c.args.i k inv.0 c.loop-k-test.true inv.1 beyond-four)

pub returns : goal.returns
returns c = simp (to_z-of_z, c.ranges.y) at c.loop-k.invariant.0
