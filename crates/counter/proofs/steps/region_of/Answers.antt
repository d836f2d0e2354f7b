-- `region_of`: a word that is not negative casts to its number.
use mathlib.Core.Path.{ap}
use mir.Syntax.{w32}
use mir.ValLaws.{to_z-of_z}
use Rattle.std.proofs.Common.{Some}
use Rattle.plans.proofs.WordLaws.{number-nat_abs, cast-number}
use Rattle.counter.specs.Inner.Steps.{parent_region}
use Rattle.counter.proofs.steps.region_of.Goals as goal

pub overflow_cast-result : goal.overflow_cast-result
overflow_cast-result c = let e = to_z-of_z w32 _ c.ranges.w in
    rw e (cast-number _ c.ranges.w (rw e at c.if-w-lt0.false))

pub returns-then-w-lt0 : goal.returns-then-w-lt0
unfolding parent_region
returns-then-w-lt0 c = rw (rw (to_z-of_z w32 _ c.ranges.w) at c.if-w-lt0.true)

pub returns-else-w-lt0 : goal.returns-else-w-lt0
unfolding parent_region
returns-else-w-lt0 c =
    let e = to_z-of_z w32 _ c.ranges.w in
    let f = rw e at c.if-w-lt0.false in
    rw (e, f) (ap Some (number-nat_abs c.args.w f))
