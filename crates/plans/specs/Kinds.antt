-- The kinds of steps: their numbers, and the lengths of their bodies.
use Rattle.std.specs.Prelude.{Bool, false, ◌&&◌, cond, ℕ, ◌%◌, ltb, leb, eqb}
use Rattle.plans.specs.declared.Kind.{Kind}
use Rattle.plans.specs.declared.Kind.TheVariants.{Box, Polygon, Ellipse, And, Or, Not, DecimalEllipse, Ellipsoid, Unknown}

-- the kind with a number
unfoldable pub kind_of : ℕ → Kind
kind_of k =
    cond (eqb k 1) Box
    (cond (eqb k 2) Polygon
    (cond (eqb k 3) Ellipse
    (cond (eqb k 4) And
    (cond (eqb k 5) Or
    (cond (eqb k 6) Not
    (cond (eqb k 7) DecimalEllipse
    (cond (eqb k 8) Ellipsoid
    Unknown)))))))

-- the number of a kind; 0 for none
abbrev pub kind_number : Kind → ℕ
kind_number Box = 1
kind_number Polygon = 2
kind_number Ellipse = 3
kind_number And = 4
kind_number Or = 5
kind_number Not = 6
kind_number DecimalEllipse = 7
kind_number Ellipsoid = 8
kind_number Unknown = 0

abbrev pub known : Kind → Bool
known kind = ltb 0 (kind_number kind)

-- lo ≤ m ≤ hi
unfoldable pub spans : ℕ → ℕ → ℕ → Bool
spans lo hi m = leb lo m && leb m hi

-- the same, in steps of s
unfoldable pub spans_by : ℕ → ℕ → ℕ → ℕ → Bool
spans_by s lo hi m = spans lo hi m && eqb (m % s) 0

-- whether a body of a kind may have m words
abbrev pub length_good : Kind → ℕ → Bool
length_good Box m = spans_by 3 3 24 m
length_good Polygon m = spans_by 2 8 514 m
length_good Ellipse m = eqb m 8
length_good And m = spans 2 63 m
length_good Or m = spans 2 63 m
length_good Not m = eqb m 1
length_good DecimalEllipse m = eqb m 8
length_good Ellipsoid m = eqb m 13
length_good Unknown m = false
