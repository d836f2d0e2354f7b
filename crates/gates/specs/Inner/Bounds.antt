-- The ends that a range of numbers may have: what the code keeps of a number lies beyond them.
use Rattle.std.specs.Prelude.{◌<◌, ℤ, nat_abs}

-- of whole numbers
abbrev pub Bound : ℤ → Type 0
Bound z = nat_abs z < 1073741824

-- of thousandths
abbrev pub DecimalBound : ℤ → Type 0
DecimalBound z = nat_abs z < 2147483647
