-- `no_tally` is `no_tally`.
use mathlib.Core.Path.{refl}
use Rattle.counter.specs.Counting.{no_tally}
use Rattle.counter.proofs.no_tally.Goals as goal

pub returns : goal.returns
unfolding no_tally
returns c = refl
