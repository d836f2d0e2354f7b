-- `taken_of`: taken has the events taken of those before the e-th.
use mathlib.Core.Path.{◌≡◌}
use Prim.Native.Nat.{◌+◌, ◌-◌, ◌≤◌}
use native.Mathlib.Omega.{arith}
use native.Mathlib.Nat.{mul-le-mul_right}
use Rattle.counter.proofs.GroupLaws.{first-none}
use Rattle.counter.proofs.groups.taken_of.Goals as goal
use Rattle.counter.proofs.groups.taken_of.Goals.{After-min}

pub loop-e-init : goal.loop-e-init
loop-e-init c = (omega arith, first-none _)

-- in the loop: the next events, eight or those that are left
module _ (after-min : After-min) where
  some : after-min.min.result ≤ after-min.args.g - after-min.loop-e.e
  some = let q = after-min.min.ensures in omega arith

pub overflow_add-next : goal.overflow_add-next
overflow_add-next c =
    let s = some c in
    let f = c.requires.0 in
    omega arith

pub taken_some-taken-requires : goal.taken_some-taken-requires
taken_some-taken-requires c =
    let loop = c.loop-e in
    let s = some c in
    let q = c.min.ensures in
    let h = c.loop-e-test.true in
    let f = c.requires.0 in
    let l : loop.e + c.min.result ≤ c.args.g = omega arith in
    let m = mul-le-mul_right c.args.n l in
    let w = c.requires.1 in
    (omega arith, omega arith, omega arith, loop.invariant.1, omega arith)

pub loop-e-smaller : goal.loop-e-smaller
loop-e-smaller c =
    let h = c.loop-e-test.true in
    let q = c.min.ensures in
    omega arith

pub loop-e-preserved : goal.loop-e-preserved
loop-e-preserved c =
    let h = c.loop-e-test.true in
    let s = some (goal.at.loop-e-preserved c).After-min in
    (omega arith, c.taken_some-taken.ensures)

pub returns : goal.returns
returns c =
    let loop = c.loop-e in
    let q : loop.e ≡ c.args.g = omega arith in
    rw q at loop.invariant.1
