-- `long_walk`: after each stretch the sum is what `walked` holds.
use mathlib.Core.Path.{◌≡◌, refl, sym, ap, ◌∙◌}
use Prim.Native.Nat.{ℕ, ◌+◌, ◌-◌, ◌/◌, ◌<◌, ◌≤◌}
use native.Mathlib.Omega.{arith}
use native.Mathlib.Decide.{dec_lt}
use lib.ListN.{length}
use mir.Syntax.{w64}
use mir.Val.{to_z}
use mir.Facts.{to_z-of_z, sfits_lit}
use Rattle.integers.proofs.Bounds.{fit-below}
use Rattle.counter.specs.Walk.{walked}
use Rattle.counter.specs.Inner.Walks.{Apart, Stretch}
use Rattle.std.proofs.Common.{Some}
use Rattle.counter.proofs.PolygonLaws.{scale_fits}
use Rattle.counter.proofs.WalkLaws.{walked_start, walked_in, walked-carried}
use Rattle.counter.proofs.polygon.long_walk.Goals as goal
use Rattle.counter.proofs.polygon.long_walk.Goals.{After-run_end-start, After-walk, In-loop-i}

-- ---- at the loop's head
holds : (c : In-loop-i) → walked c.args.v.now c.args.point.x c.args.point.y (c.loop-i.i / 2) ≡ Some (to_z w64 c.loop-i.sum-bits)
holds c = c.loop-i.invariant.0

pub loop-i-init : goal.loop-i-init
loop-i-init c = (walked_start c.args.v.now c.args.point.x c.args.point.y, refl, omega arith, sfits_lit tt)

pub run_end-start-requires : goal.run_end-start-requires
run_end-start-requires c =
    (c.requires.0, c.loop-i.invariant.1, c.loop-i-test.true)

-- the edges that are passed by
passed-by : (c : After-run_end-start) → (Apart c.args.v.now c.args.point.y c.loop-i.i c.run_end-start.result)
passed-by c = simp (to_z-of_z, scale_fits c.args.point.y c.requires.1.1) at c.run_end-start.ensures

pub stretch_end-end-requires : goal.stretch_end-end-requires
stretch_end-end-requires c = let p = passed-by c in (p.to, p.even, c.requires.0.even)

pub walk-requires : goal.walk-requires
walk-requires c =
    let after-run_end-start = (goal.at.walk-requires c).After-run_end-start in (
      c.requires.0,
      c.requires.1,
      (passed-by after-run_end-start).same (c.run_end-start.result / 2) (let f = (passed-by after-run_end-start).from in omega arith)
          (omega arith) c.args.point.x
          ∙ holds (goal.at.walk-requires c).In-loop-i,
      c.stretch_end-end.ensures,
    )

-- what the walk holds at the end of the stretch
walk_is : (c : After-walk)
    → (c.walk.result ≡ walked c.args.v.now c.args.point.x c.args.point.y (c.stretch_end-end.result / 2))
walk_is c = c.walk.ensures

-- carried stays carried to the last edge
pub returns-in_err-sum : goal.returns-in_err-sum
returns-in_err-sum c =
    let t = c.stretch_end-end.ensures.to in
    let k = c.stretch_end-end.result / 2 in
    let m = length c.args.v.now / 2 - k in
    let q : k + m ≡ length c.args.v.now / 2 = omega arith in
    c.from_residual.ensures ∙ sym (ap (walked c.args.v.now c.args.point.x c.args.point.y) (sym q)
    ∙ walked-carried c.args.v.now c.args.point.x c.args.point.y k m (sym (walk_is (goal.at.returns-in_err-sum c).After-walk) ∙ c.in_err-sum.was))

pub loop-i-smaller : goal.loop-i-smaller
loop-i-smaller c =
    let p = (passed-by (goal.at.loop-i-smaller c).After-run_end-start).from in
    let stretch = c.stretch_end-end.ensures in
    let t = stretch.to in
    let l = c.loop-i-test.true in
    further (dec_lt c.run_end-start.result (length c.args.v.now)) stretch p t l
  where
    further : {n i start end : ℕ} → Dec (start < n) → Stretch n start end → i ≤ start → end ≤ n → i < n → n - end < n - i
    further (yes u) stretch p t l = let o = stretch.onward u in omega arith
    further (no u) stretch p t l = let f = stretch.from in omega arith

pub loop-i-preserved : goal.loop-i-preserved
loop-i-preserved c =
    let stretch = c.stretch_end-end.ensures in
    let t = stretch.to in
    let now-holds = sym (walk_is (goal.at.loop-i-preserved c).After-walk) ∙ c.in_ok-sum.was in
    let fits = fit-below {w = w64} (omega arith) (walked_in c.args.v.now c.args.point.x c.args.point.y (c.stretch_end-end.result / 2) _ now-holds) in
    simp (to_z-of_z, fits) (now-holds, stretch.end_even, t, fits)

pub returns : goal.returns
returns c =
    let l = c.loop-i-test.false in
    let u = c.loop-i.invariant.2 in
    let q : length c.args.v.now ≡ c.loop-i.i = omega arith in
    rw q (sym c.loop-i.invariant.0)
