-- `count_passed`: the tally is that of the events before the j-th.
use mathlib.Core.Path.{◌≡◌, ap, ◌∙◌}
use Prim.Native.Nat.{ℕ, ◌<◌, ◌≤◌, ◌/◌, ◌+◌, ◌^◌}
use native.Mathlib.Omega.{arith}
use native.Mathlib.Nat.{div-le_self}
use lib.ListN.{length}
use Rattle.plans.specs.Form.{width}
use Rattle.counter.specs.Counting.{tally_of}
use Rattle.counter.proofs.SoundLaws.{passing}
use Rattle.counter.proofs.TallyLaws.{events-inside, tally-none, ragged, counted}
use Rattle.counter.proofs.passing.count_passed.Goals as goal
use Rattle.counter.proofs.passing.count_passed.Goals.{After-least-g}

pub number_in-n-requires : goal.number_in-n-requires
unfolding width
number_in-n-requires c =
    let w = passing c.args.plan.now c.requires in
    let t = w.two in
    let n = w.narrow in
    (omega arith, omega arith)

pub nonzero_rem-events : goal.nonzero_rem-events
unfolding width
nonzero_rem-events c =
    let w = (passing c.args.plan.now c.requires).wide in
    let e = c.number_in-n.ensures in
    omega arith

pub returns-then-events-n-ne0 : goal.returns-then-events-n-ne0
returns-then-events-n-ne0 c =
    let args = c.args in
    ragged args.plan.now args.events.now c.number_in-n.ensures c.if-events-n-ne0.true

pub nonzero_div-rest : goal.nonzero_div-rest
unfolding width
nonzero_div-rest c =
    let w = (passing c.args.plan.now c.requires).wide in
    let e = c.number_in-n.ensures in
    omega arith

pub loop-rest-init : goal.loop-rest-init
loop-rest-init c =
    let args = c.args in
    (omega arith, c.no_tally-t.ensures ∙ tally-none args.plan.now args.events.now)

-- in the loop: the next group, of 64 events or of those that are left
module _ (after-least : After-least-g) where
  abbrev n : ℕ
  n = after-least.number_in-n.result

  abbrev j : ℕ
  j = after-least.loop-rest.j

  abbrev g : ℕ
  g = after-least.least-g.result

  some : 0 < g
  some =
      let h = after-least.loop-rest-test.true in
      let q = after-least.least-g.ensures in
      omega arith

  inside : j + g ≤ length after-least.args.events.now / n
  inside =
      let h = after-least.loop-rest.invariant.0 in
      let q = after-least.least-g.ensures in
      omega arith

  fits : j + g < 2 ^ 62
  fits =
      let d = div-le_self (length after-least.args.events.now) n in
      let i = inside in
      let long = after-least.well_formed in
      omega arith

pub count_group-t-requires : goal.count_group-t-requires
unfolding width
count_group-t-requires c = (
  c.requires,
  c.number_in-n.ensures,
  c.loop-rest.invariant.1,
  let q = c.least-g.ensures in omega arith,
  events-inside (length c.args.events.now) (n c) (j c + g c) (inside c),
  fits c,
)

pub overflow_add-j : goal.overflow_add-j
overflow_add-j c = let f = fits (goal.at.overflow_add-j c).After-least-g in omega arith

pub overflow_sub-rest : goal.overflow_sub-rest
overflow_sub-rest c = let q = c.least-g.ensures in omega arith

pub loop-rest-smaller : goal.loop-rest-smaller
loop-rest-smaller c =
    let s = some (goal.at.loop-rest-smaller c).After-least-g in
    let h = c.loop-rest-test.true in
    omega arith

pub loop-rest-preserved : goal.loop-rest-preserved
loop-rest-preserved c =
    let h = c.loop-rest.invariant.0 in
    let q = c.least-g.ensures in
    (omega arith, c.count_group-t.ensures)

pub returns : goal.returns
returns c =
    let args = c.args in
    let list = args.events.now in
    let none = c.loop-rest-test.false in
    let h = c.loop-rest.invariant.0 in
    let all : c.loop-rest.j ≡ length list / c.number_in-n.result = omega arith in
    counted args.plan.now list c.number_in-n.ensures c.if-events-n-ne0.false
    (c.loop-rest.invariant.1 ∙ ap (λ (x : ℕ). tally_of args.plan.now list x) all)
