-- Outline bits: the regions of which an event is a member and on the outline of whose own shape it is.
use Rattle.std.specs.Prelude.{Bool, false, ◌&&◌, cond, List, ℕ, zero, suc, ℤ, drop}
use Rattle.plans.specs.Words.{word}
use Rattle.plans.specs.Symmetric.{symmetric_from}
use Rattle.plans.specs.Bits.{with_bit}
use Rattle.plans.specs.Form.{kind_at, region_at, body_at, next_at, step_count}
use Rattle.plans.specs.declared.Kind.{Kind}
use Rattle.plans.specs.declared.Kind.TheVariants.{Box, Polygon, Ellipse, And, Or, Not, DecimalEllipse, Ellipsoid, Unknown}
use Rattle.counter.specs.Positions.{is_on_outline, polygon_position, ellipse_position}
use Rattle.counter.specs.DecimalEllipse.{decimal_ellipse_position}
use Rattle.counter.specs.Ellipsoid.{ellipsoid_position}
use Rattle.counter.specs.Members.{value_in, step_in}

-- ---- shapes

-- polygon, ellipses, ellipsoid: the body's words as in `polygon_in`, `ellipse_in`, `decimal_ellipse_in` and `ellipsoid_in`
unfoldable pub polygon_on : List ℤ → List ℤ → Bool
polygon_on event body = is_on_outline (polygon_position (drop 2 body) (value_in event body 0) (value_in event body 1))

unfoldable pub ellipse_on : List ℤ → List ℤ → Bool
ellipse_on event body =
    is_on_outline (ellipse_position (word body 2) (word body 3) (word body 4) (word body 5) (word body 6) (word body 7)
    (value_in event body 0) (value_in event body 1))

unfoldable pub decimal_ellipse_on : List ℤ → List ℤ → Bool
decimal_ellipse_on event body =
    is_on_outline (decimal_ellipse_position (word body 2) (word body 3) (word body 4) (word body 5) (word body 6) (word body 7)
    (value_in event body 0) (value_in event body 1))

unfoldable pub ellipsoid_on : List ℤ → List ℤ → Bool
ellipsoid_on event body =
    is_on_outline (ellipsoid_position (word body 3) (word body 4) (word body 5) (symmetric_from (word body) 6) (word body 12)
    (value_in event body 0) (value_in event body 1) (value_in event body 2))

-- "Boxes and combinations never set one"
abbrev pub shape_on : Kind → List ℤ → List ℤ → Bool
shape_on Box event body = false
shape_on Polygon event body = polygon_on event body
shape_on Ellipse event body = ellipse_on event body
shape_on And event body = false
shape_on Or event body = false
shape_on Not event body = false
shape_on DecimalEllipse event body = decimal_ellipse_on event body
shape_on Ellipsoid event body = ellipsoid_on event body
shape_on Unknown event body = false

-- ---- steps

-- whether the step at a place sets the outline bit of its region: for a member on the outline of the step's own shape
unfoldable pub step_on : List ℤ → List ℤ → ℕ → ℕ → Bool
step_on p event bits at = step_in p event bits at && shape_on (kind_at p at) event (body_at p at)

-- the outline bits after the steps that are left, from a place on; bits are those of the members, as `settled` has them
unfoldable pub outline_from : ℕ → List ℤ → List ℤ → ℕ → ℕ → ℕ → ℕ
outline_from zero p event bits outline at = outline
outline_from (suc left) p event bits outline at =
    outline_from left p event (cond (step_in p event bits at) (with_bit bits (region_at p at)) bits)
    (cond (step_on p event bits at) (with_bit outline (region_at p at)) outline) (next_at p at)

-- the outline bits of an event that is taken
unfoldable pub outline_of : List ℤ → List ℤ → ℕ
outline_of p event = outline_from (step_count p) p event 0 0 2
