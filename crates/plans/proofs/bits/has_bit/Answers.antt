-- `has_bit`: no number below 2^64 has a bit from 64 on.
use mathlib.Core.Path.{refl}
use lib.Pow.{pow_mono}
use native.Mathlib.Nat.{div-eq_of_lt, lt_of_lt_of_le}
use Rattle.plans.specs.Bits.{has_bit}
use Rattle.plans.proofs.bits.has_bit.Goals as goal

pub returns-then-r-lt64 : goal.returns-then-r-lt64
unfolding has_bit
returns-then-r-lt64 c = refl

pub returns-else-r-lt64 : goal.returns-else-r-lt64
unfolding has_bit
returns-else-r-lt64 c = rw (div-eq_of_lt (lt_of_lt_of_le c.ranges.bits.fits (pow_mono c.if-r-lt64.false)))
