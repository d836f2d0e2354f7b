-- `in_box`: inside says whether the triples before the i-th word hold the event.
use mathlib.Core.Path.{◌≡◌, refl}
use Prim.Native.Nat.{suc, ◌/◌, ◌+◌}
use native.Mathlib.Omega.{arith}
use lib.ListN.{length}
use Rattle.plans.specs.Indices.{all}
use Rattle.counter.specs.Members.{box_in}
use borrow.Author.Rules.{rules}
use Rattle.counter.proofs.shapes.in_box.Goals as goal

pub loop-i-init : goal.loop-i-init
unfolding all
loop-i-init c = (search rules, refl, refl)

pub in_triple-inside-requires : goal.in_triple-inside-requires
in_triple-inside-requires c =
    let z = c.loop-i.invariant.1 in
    let t = c.requires.0.threes in
    (z, omega (arith, c.loop-i-test.true), c.requires.0.dimension c.loop-i.i c.loop-i-test.true z, c.requires.1)

pub overflow_add-i : goal.overflow_add-i
overflow_add-i c =
    let g = c.well_formed in
    let z = c.loop-i.invariant.1 in
    let t = c.requires.0.threes in
    omega (arith, c.loop-i-test.true)

pub loop-i-preserved : goal.loop-i-preserved
unfolding all
loop-i-preserved c =
    let j = c.loop-i in
    let z = j.invariant.1 in
    let t = c.requires.0.threes in
    let l = c.loop-i-test.true in
    let e : (j.i + 3) / 3 ≡ suc (j.i / 3) = omega arith in
    (omega arith, omega arith, rw (e, j.invariant.2, c.in_triple-inside.ensures))

pub returns : goal.returns
unfolding box_in
returns c = let e : c.loop-i.i ≡ length c.args.body.now = omega (arith, c.loop-i-test.false) in
    rw e at c.loop-i.invariant.2
