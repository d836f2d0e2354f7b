-- `bits_of`: below 0 the bits are 2^64 - 1 less -(x + 1).
use Rattle.std.proofs.Common.{arith, to_z-of_z}
use mir.Facts.{Fits-nat_abs}
use Rattle.wide.proofs.SignLaws.{Below, NotBelow, below-zero, from_zero}
use Rattle.wide.proofs.words.bits_of.Goals as goal
use Rattle.wide.proofs.words.bits_of.Goals.{Else-x-lt0, Then-x-lt0}

below : (c : Then-x-lt0) → Below c.args.x
below c =
    below-zero c.args.x c.ranges.x (simp (to_z-of_z, c.ranges.x) at c.if-x-lt0.true)

not-below : (c : Else-x-lt0) → NotBelow c.args.x
not-below c =
    from_zero c.args.x (simp (to_z-of_z, c.ranges.x) at c.if-x-lt0.false)

pub overflow_add-y : goal.overflow_add-y
overflow_add-y c = simp (to_z-of_z, c.ranges.x) (below c).sum_fits

pub overflow_sub-y : goal.overflow_sub-y
overflow_sub-y c = simp (to_z-of_z, c.ranges.x, (below c).sum_fits) (below c).fits

pub overflow_cast-result : goal.overflow_cast-result
overflow_cast-result c =
    let b = below c in
    let f = c.ranges.x.sfits in
    simp (to_z-of_z, c.ranges.x, b.sum_fits, b.fits) (rw b.is (tt, record { fits = omega arith }))

pub overflow_sub-result : goal.overflow_sub-result
overflow_sub-result c =
    let b = below c in
    let f = c.ranges.x.sfits in
    simp (to_z-of_z, c.ranges.x, b.sum_fits, b.fits) (rw b.is (omega arith))

pub overflow_cast-result-else-x-lt0 : goal.overflow_cast-result-else-x-lt0
overflow_cast-result-else-x-lt0 c = simp (to_z-of_z, c.ranges.x) ((not-below c).nonneg, Fits-nat_abs tt c.ranges.x)

pub returns-then-x-lt0 : goal.returns-then-x-lt0
returns-then-x-lt0 c =
    let b = below c in
    simp (to_z-of_z, c.ranges.x, b.sum_fits, b.fits) (rw b.is b.bits)

pub returns-else-x-lt0 : goal.returns-else-x-lt0
returns-else-x-lt0 c = simp (to_z-of_z, c.ranges.x) (not-below c).bits
