-- The ranges of what the shapes' code is handed: values, vertices, the fields of an ellipse and of an ellipsoid.
use Rattle.std.specs.Prelude.{◌≡◌, List, ℕ, ◌≤◌, ◌<◌, ◌%◌, ℤ, pos, length, get_or, ◌≤ℤ◌}
use Rattle.std.specs.Int.Signed.{mag}
use Rattle.integers.specs.Inner.Bounds.{In}

-- from -65536 to 65535: `mag z` is n for n and for -(n + 1)
abbrev pub OnScale : ℤ → Type 0
OnScale z = mag z < 65536

-- three vertices or more, each on the scale
pub record Vertices (v : List ℤ) : Type 0 where
  pub three : 6 ≤ length v
  pub even : length v % 2 ≡ 0
  pub on_scale : (k : ℕ) → OnScale (get_or v k (pos 0))

-- an ellipse's fields in their ranges: entries within ±`most`, D² from 1 to `far`
pub record Fields (most far : ℕ) (m1 m2 c11 c12 c22 d2 : ℤ) : Type 0 where
  pub m1_on : OnScale m1
  pub m2_on : OnScale m2
  pub c11_in : In most c11
  pub c12_in : In most c12
  pub c22_in : In most c22
  pub d2_from : pos 1 ≤ℤ d2
  pub d2_to : d2 ≤ℤ pos far

-- of whole numbers; in thousandths
abbrev pub WholeFields : ℤ → ℤ → ℤ → ℤ → ℤ → ℤ → Type 0
WholeFields m1 m2 c11 c12 c22 d2 = Fields 16777216 4096 m1 m2 c11 c12 c22 d2

abbrev pub DecimalFields : ℤ → ℤ → ℤ → ℤ → ℤ → ℤ → Type 0
DecimalFields m1 m2 c11 c12 c22 d2 = Fields 2000000000 4096000 m1 m2 c11 c12 c22 d2

-- of an ellipsoid
pub record SolidFields (m1 m2 m3 c11 c12 c13 c22 c23 c33 d2 : ℤ) : Type 0 where
  pub m1_on : OnScale m1
  pub m2_on : OnScale m2
  pub m3_on : OnScale m3
  pub c11_in : In 16777216 c11
  pub c12_in : In 16777216 c12
  pub c13_in : In 16777216 c13
  pub c22_in : In 16777216 c22
  pub c23_in : In 16777216 c23
  pub c33_in : In 16777216 c33
  pub d2_from : pos 1 ≤ℤ d2
  pub d2_to : d2 ≤ℤ pos 4096
