-- `polygon_position` meets its contract: after all edges the walk tells the position.
use mathlib.Core.Path.{refl, ap, ◌∙◌}
use native.Mathlib.Omega.{arith}
use Rattle.counter.specs.Walk.{found}
use Rattle.counter.proofs.WalkLaws.{walked_start, walked_all}
use Rattle.counter.proofs.polygon.polygon_position.Goals as goal

pub walk-requires : goal.walk-requires
walk-requires c =
    let a = c.args in
    let six = c.requires.0.three in (
      c.requires.0,
      c.requires.1,
      walked_start a.v.now a.point.x a.point.y,
      record { start_even = refl; end_even = c.requires.0.even; from = omega arith; to = omega arith; onward = λ h. h },
    )

pub returns-then-v-le32 : goal.returns-then-v-le32
returns-then-v-le32 c =
    let a = c.args in
    c.found.ensures ∙ ap found c.walk.ensures
    ∙ walked_all a.v.now c.requires.0.even a.point.x a.point.y

pub returns-else-v-le32 : goal.returns-else-v-le32
returns-else-v-le32 c =
    let a = c.args in
    c.found-else-v-le32.ensures ∙ ap found c.long_walk.ensures
    ∙ walked_all a.v.now c.requires.0.even a.point.x a.point.y
