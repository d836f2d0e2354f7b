-- `number_of`: a word that is not negative casts to its number.
use mir.Syntax.{w32}
use mir.ValLaws.{to_z-of_z}
use Rattle.plans.proofs.WordLaws.{number-negative, number-nat_abs, cast-number}
use Rattle.plans.proofs.words.number_of.Goals as goal

pub overflow_cast-result : goal.overflow_cast-result
overflow_cast-result c = let e = to_z-of_z w32 _ c.ranges.w in
    rw e (cast-number _ c.ranges.w (rw e at c.if-w-lt0.false))

pub returns-then-w-lt0 : goal.returns-then-w-lt0
returns-then-w-lt0 c = number-negative c.args.w (rw (to_z-of_z w32 _ c.ranges.w) at c.if-w-lt0.true)

pub returns-else-w-lt0 : goal.returns-else-w-lt0
returns-else-w-lt0 c = let e = to_z-of_z w32 _ c.ranges.w in
    rw e (number-nat_abs c.args.w (rw e at c.if-w-lt0.false))
