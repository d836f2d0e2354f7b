-- `bit_in` is `has_bit`.
use mathlib.Core.Path.{refl}
use Rattle.plans.specs.Bits.{has_bit}
use Rattle.counter.proofs.reading.bit_in.Goals as goal

pub returns : goal.returns
unfolding has_bit
returns c = refl
