-- `in_range` is `inRange`.
use mir.Syntax.{w32}
use mir.ValLaws.{to_z-of_z}
use Rattle.integers.specs.Range.{in_range}
use Rattle.plans.proofs.words.in_range.Goals as goal

pub returns : goal.returns
unfolding in_range
returns c = simp (to_z-of_z w32 _ c.ranges.w, to_z-of_z w32 _ c.ranges.lo, to_z-of_z w32 _ c.ranges.hi)
