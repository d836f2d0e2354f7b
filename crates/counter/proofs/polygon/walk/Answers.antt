-- `walk`: after each edge the sum is what `walked` holds, and the point is seen from the last vertex.
use mathlib.Core.Path.{◌≡◌, refl, sym, ap, ◌∙◌}
use mathlib.Core.List.{List}
use Prim.Native.Nat.{ℕ, ◌+◌, ◌-◌, ◌/◌, ◌<◌}
use native.Mathlib.Omega.{arith}
use lib.IntN.{ℤ, pos}
use lib.ListN.{length, get_or}
use mir.Syntax.{w64}
use mir.Val.{to_z}
use mir.Facts.{to_z-of_z}
use Rattle.integers.proofs.Bounds.{fit-below}
use Rattle.counter.specs.Walk.{walked, past}
use Rattle.counter.specs.Inner.Walks.{SeenFrom, Near, vertex_before}
use Rattle.counter.specs.declared.polygon.Offset.{Offset}
use Rattle.std.proofs.Common.{Some}
use Rattle.counter.proofs.WalkLaws.{edge_at, before_in, before-next, walked-edge, walked_in, walked-carried, seen-near}
use Rattle.counter.proofs.polygon.walk.Invariants.{SeenBefore}
use Rattle.counter.proofs.polygon.walk.Goals as goal
use Rattle.counter.proofs.polygon.walk.Goals.{After-offset_of-next, After-past_edge, In-loop-i}

pub vertex_before-requires : goal.vertex_before-requires
vertex_before-requires c = let six = c.requires.0.three in (omega arith, c.requires.3.start_even)

pub offset_of-last-requires : goal.offset_of-last-requires
offset_of-last-requires c =
    let l = c.requires.3.from in
    let m = c.requires.3.to in (
      c.requires.0,
      rw c.vertex_before.ensures (before_in c.args.v.now c.args.start c.requires.0.three (omega arith)),
      c.requires.1,
    )

pub loop-i-init : goal.loop-i-init
loop-i-init c =
    let f = c.ranges in
    let stretch = c.requires.3 in
    simp (to_z-of_z, f.before) (
      c.requires.2,
      rw c.vertex_before.ensures at c.offset_of-last.ensures,
      omega arith,
      stretch.from,
      stretch.start_even,
      f.before,
    )

-- in the loop: the vertex at i is there
vertex-there : (c : In-loop-i) → c.loop-i.i + 1 < length c.args.v.now
vertex-there c =
    let e = c.loop-i.invariant.4 in
    let w = c.requires.0.even in
    let t = c.requires.3.to in
    let l = c.loop-i-test.true in
    omega arith

pub offset_of-next-requires : goal.offset_of-next-requires
offset_of-next-requires c =
    (c.requires.0, vertex-there c, c.requires.1)

-- ---- the point, seen from the ends of an edge
module _ (c : After-offset_of-next) where
  abbrev v : List ℤ
  v = c.args.v.now

  abbrev x : ℤ
  x = c.args.point.x

  abbrev y : ℤ
  y = c.args.point.y

  abbrev i : ℕ
  i = c.loop-i.i

  before_it : walked v x y (i / 2) ≡ Some (to_z w64 c.loop-i.sum-bits)
  before_it = c.loop-i.invariant.0

  last-seen : SeenBefore v x y i c.loop-i.last
  last-seen = c.loop-i.invariant.1

  next-seen : SeenFrom x y (get_or v i (pos 0)) (get_or v (i + 1) (pos 0)) c.offset_of-next.result
  next-seen = c.offset_of-next.ensures

  near : (k : ℕ) {offset : Offset} → SeenFrom x y (get_or v k (pos 0)) (get_or v (k + 1) (pos 0)) offset → Near offset
  near k = let on = c.requires.0.on_scale in seen-near c.requires.1.0 c.requires.1.1 (on k) (on (k + 1))

pub past_edge-requires : goal.past_edge-requires
past_edge-requires c =
    let l = vertex-there (goal.at.past_edge-requires c).In-loop-i in
    let few = (walked_in (v c) (x c) (y c) (i c / 2) _ (before_it c)).abs in
    (near c (vertex_before (length (v c)) (i c)) (last-seen c), near c (i c) (next-seen c), record { abs = omega arith })

-- what the walk holds past the edge
past-it : (c : After-past_edge)
    → (walked (v c.before) (x c.before) (y c.before) ((i c.before + 2) / 2) ≡ c.past_edge.result)
past-it c =
    let l = vertex-there c.before.before in
    let e = edge_at (v c.before) (vertex_before (length (v c.before)) (i c.before)) (i c.before) in
    walked-edge (v c.before) c.requires.0.even (x c.before) (y c.before) (i c.before) c.loop-i.invariant.4 (omega arith)
    ∙ ap (past e (x c.before) (y c.before)) (before_it c.before)
    ∙ sym (c.past_edge.ensures.is (x c.before) (y c.before) _ _ _ _ (last-seen c.before) (next-seen c.before))

-- carried stays carried to the end of the stretch
pub returns-in_err-sum : goal.returns-in_err-sum
returns-in_err-sum c =
    let after-offset_of-next = (goal.at.returns-in_err-sum c).After-offset_of-next in
    let stretch = c.requires.3 in
    let l = c.loop-i-test.true in
    let even = c.loop-i.invariant.4 in
    let end_even = stretch.end_even in
    let k = (i after-offset_of-next + 2) / 2 in
    let m = c.args.end / 2 - k in
    let q : k + m ≡ c.args.end / 2 = omega arith in
    c.from_residual.ensures ∙ sym (ap (walked (v after-offset_of-next) (x after-offset_of-next) (y after-offset_of-next)) (sym q) ∙ walked-carried
    (v after-offset_of-next) (x after-offset_of-next) (y after-offset_of-next) k m (past-it (goal.at.returns-in_err-sum c).After-past_edge ∙ c.in_err-sum.was))

pub overflow_add-i : goal.overflow_add-i
overflow_add-i c = let l = vertex-there (goal.at.overflow_add-i c).In-loop-i in omega arith

pub loop-i-smaller : goal.loop-i-smaller
loop-i-smaller c = let l = c.loop-i-test.true in omega arith

pub loop-i-preserved : goal.loop-i-preserved
loop-i-preserved c =
    let after-offset_of-next = (goal.at.loop-i-preserved c).After-offset_of-next in
    let l = vertex-there (goal.at.loop-i-preserved c).In-loop-i in
    let t = c.loop-i-test.true in
    let f = c.ranges in
    let from = c.loop-i.invariant.2 in
    let even = c.loop-i.invariant.4 in
    let end_even = c.requires.3.end_even in
    let holds = past-it (goal.at.loop-i-preserved c).After-past_edge ∙ c.in_ok-sum.was in
    let fits = fit-below {w = w64} (omega arith)
    (walked_in (v after-offset_of-next) (x after-offset_of-next) (y after-offset_of-next) ((i after-offset_of-next + 2) / 2) _ holds) in
    simp (to_z-of_z, fits) (
      holds,
      rw (before-next (length (v after-offset_of-next)) (i after-offset_of-next) (i after-offset_of-next + 2) refl) (next-seen after-offset_of-next),
      omega arith,
      omega arith,
      omega arith,
      fits,
    )

pub returns : goal.returns
returns c =
    let l = c.loop-i-test.false in
    let u = c.loop-i.invariant.3 in
    let q : c.args.end ≡ c.loop-i.i = omega arith in
    rw q (sym (c.loop-i.invariant.0))
