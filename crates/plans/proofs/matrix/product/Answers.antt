-- `product`: the product of any two 32-bit numbers fits 64 bits.
use mir.Syntax.{w32, w64}
use mir.Val.{SFits}
use mir.Facts.{to_z-of_z}
use lib.IntN.{◌*ℤ◌}
use Rattle.integers.proofs.Bounds.{in_fit, in_mul, fit, wider}
use Rattle.plans.proofs.matrix.product.Goals as goal
use Rattle.plans.proofs.matrix.product.Goals.{Start}

fits-product : (c : Start) → SFits w64 (c.args.a *ℤ c.args.b)
fits-product c = fit tt (in_mul (in_fit w32 c.ranges.a) (in_fit w32 c.ranges.b))

pub overflow_cast-result : goal.overflow_cast-result
overflow_cast-result c = simp (to_z-of_z, c.ranges.a) (wider c.ranges.a)

pub overflow_cast-result-2 : goal.overflow_cast-result-2
overflow_cast-result-2 c = simp (to_z-of_z, c.ranges.b) (wider c.ranges.b)

pub overflow_mul-result : goal.overflow_mul-result
overflow_mul-result c = simp (to_z-of_z, c.ranges.a, c.ranges.b, wider c.ranges.a, wider c.ranges.b) (fits-product c)

pub returns : goal.returns
returns c = simp (to_z-of_z, c.ranges.a, c.ranges.b, wider c.ranges.a, wider c.ranges.b, fits-product c)
