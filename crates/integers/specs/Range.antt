-- A range of integers, both ends included.
use Rattle.std.specs.Prelude.{Bool, ◌&&◌, ℤ}
use Rattle.std.specs.Int.Signed.{le_z}

-- lo ≤ v ≤ hi
unfoldable pub in_range : ℤ → ℤ → ℤ → Bool
in_range lo hi v = le_z lo v && le_z v hi
