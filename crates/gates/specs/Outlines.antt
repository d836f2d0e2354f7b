-- Which events are on the outline of what a line draws.
use Rattle.std.specs.Prelude.{Bool, false, List, ℕ, ℤ}
use Rattle.counter.specs.Positions.{is_on_outline, polygon_position, ellipse_position}
use Rattle.plans.specs.Symmetric.{symmetric_from}
use Rattle.counter.specs.DecimalEllipse.{decimal_ellipse_position}
use Rattle.counter.specs.Ellipsoid.{ellipsoid_position}
use Rattle.gates.specs.Kinds.{field_at, value_of, thousandths_of}
use Rattle.gates.specs.Meaning.{value_under, vertices_of}
use Rattle.gates.specs.Gate.{Event, Leaf, rect, poly, ellip, decimal_ellip, ellip3, quadrant}

unfoldable pub on_poly : List (List ℕ) → List (List ℕ) → Event → Bool
on_poly head fs e = is_on_outline (polygon_position (vertices_of fs) (value_under head e (field_at fs 3)) (value_under head e (field_at fs 4)))

unfoldable pub on_ellip : List (List ℕ) → List (List ℕ) → Event → Bool
on_ellip head fs e =
    let number : ℕ → ℤ = λ k. value_of (field_at fs k) in
    is_on_outline (ellipse_position (number 5) (number 6) (number 7) (number 8) (number 9) (number 10)
    (value_under head e (field_at fs 3)) (value_under head e (field_at fs 4)))

unfoldable pub on_decimal_ellip : List (List ℕ) → List (List ℕ) → Event → Bool
on_decimal_ellip head fs e =
    let mean : ℕ → ℤ = λ k. value_of (field_at fs k) in
    let number : ℕ → ℤ = λ k. thousandths_of (field_at fs k) in
    is_on_outline (decimal_ellipse_position (mean 5) (mean 6) (number 7) (number 8) (number 9) (number 10)
    (value_under head e (field_at fs 3)) (value_under head e (field_at fs 4)))

unfoldable pub on_ellip3 : List (List ℕ) → List (List ℕ) → Event → Bool
on_ellip3 head fs e =
    let number : ℕ → ℤ = λ k. value_of (field_at fs k) in
    let value : ℕ → ℤ = λ k. value_under head e (field_at fs k) in
    is_on_outline (ellipsoid_position (number 6) (number 7) (number 8) (symmetric_from number 9) (number 15) (value 3) (value 4) (value 5))

-- boxes and quadrants have none
abbrev pub outline_holds : Leaf → Event → Bool
outline_holds (rect head fs) e = false
outline_holds (poly head fs) e = on_poly head fs e
outline_holds (ellip head fs) e = on_ellip head fs e
outline_holds (decimal_ellip head fs) e = on_decimal_ellip head fs e
outline_holds (ellip3 head fs) e = on_ellip3 head fs e
outline_holds (quadrant head fs q) e = false
