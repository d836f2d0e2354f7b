-- A `Wide`, its bits and its value, modulo 2^128.
use Rattle.std.proofs.Common.{◌≡◌, ◌^◌, ◌<◌, ℤ, pos}
use Rattle.wide.specs.declared.Wide.{Wide}
use Rattle.wide.specs.Inner.Values.{bits, value, wrapped}
use Rattle.wide.proofs.CongruenceLaws.{Congruent, mod_bits, wrapped-is}
use Rattle.wide.proofs.WordLaws.{bits_below}

-- the two words have 64 bits, as those of each `Wide` in the code do
pub record Sized (w : Wide) : Type 0 where
  pub high_fits : w.high < 2 ^ 64
  pub low_fits : w.low < 2 ^ 64

pub value_mod : {w : Wide} → Sized w → Congruent (value w) (pos (bits w))
unfolding value
value_mod {w} s = mod_bits (bits w) (bits_below w.high w.low s.high_fits s.low_fits)

-- what the bits are congruent to wraps to the value
pub value-wrapped : {w : Wide} {z : ℤ} → Sized w → Congruent z (pos (bits w)) → value w ≡ wrapped z
unfolding value
value-wrapped {w} s m = wrapped-is (bits w) (bits_below w.high w.low s.high_fits s.low_fits) m
