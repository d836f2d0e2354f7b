-- The words of a plan for what a line draws: its kind and its body.
use Rattle.std.specs.Prelude.{cond, List, ℕ, ◌+◌, ◌-◌, ◌*◌, ◌/◌, ◌%◌, eqb, ltb, ℤ, pos, negsuc, length}
use Rattle.text.specs.Bounded.{tab}
use Rattle.plans.specs.declared.Kind.{Kind}
use Rattle.plans.specs.declared.Kind.TheVariants.{Box, Polygon, Ellipse, DecimalEllipse, Ellipsoid}
use Rattle.gates.specs.Kinds.{field_at, is_star, dimension_of, value_of, thousandths_of}
use Rattle.gates.specs.Quads.{divider_count, divider_field, value_count, divider_value, representative}
use Rattle.gates.specs.Tiling.{interval}
use Rattle.gates.specs.Gate.{Leaf, rect, poly, ellip, decimal_ellip, ellip3, quadrant}

-- 01: "A missing min is −65,536, a missing max 65,536"
unfoldable pub min_word : List ℕ → ℤ
min_word x = cond (is_star x) (negsuc 65535) (value_of x)

unfoldable pub max_word : List ℕ → ℤ
max_word x = cond (is_star x) (pos 65536) (value_of x)

-- box: dimension, min, max per dimension
unfoldable pub rect_word : List (List ℕ) → List (List ℕ) → ℕ → ℤ
rect_word head fs i =
    let x : List ℕ = field_at fs (3 + i) in
    cond (eqb (i % 3) 0) (pos (dimension_of head x)) (cond (eqb (i % 3) 1) (min_word x) (max_word x))

-- a shape over so many dimensions: these, then numbers, as the fields stand in the table line
unfoldable pub axes_word : ℕ → List (List ℕ) → List (List ℕ) → ℕ → ℤ
axes_word many head fs i = cond (ltb i many) (pos (dimension_of head (field_at fs (3 + i)))) (value_of (field_at fs (3 + i)))

-- polygon: two dimensions, vertices; ellipse: fields as in the table line
abbrev pub plane_word : List (List ℕ) → List (List ℕ) → ℕ → ℤ
plane_word = axes_word 2

-- ellipsoid (02: "with its 13 fields as body")
abbrev pub space_word : List (List ℕ) → List (List ℕ) → ℕ → ℤ
space_word = axes_word 3

-- ellipse with decimals (02: "laid out as kind 3 with those four in thousandths")
unfoldable pub decimal_word : List (List ℕ) → List (List ℕ) → ℕ → ℤ
decimal_word head fs i = cond (ltb i 4) (plane_word head fs i) (thousandths_of (field_at fs (3 + i)))

-- the ends of interval k of divider t
unfoldable pub lower_end : List (List ℕ) → ℕ → ℕ → ℤ
lower_end fs t k = cond (eqb k 0) (negsuc 65535) (divider_value fs t (k - 1))

unfoldable pub upper_end : List (List ℕ) → ℕ → ℕ → ℤ
upper_end fs t k = cond (eqb k (value_count fs t)) (pos 65536) (divider_value fs t k)

-- 01: "A quadrant is a box with one triple per divider", also for a divider that it does not refer to
unfoldable pub quadrant_min : List (List ℕ) → ℕ → ℕ → ℤ
quadrant_min fs q t = cond (is_star (representative fs q t)) (negsuc 65535) (lower_end fs t (interval fs t (value_of (representative fs q t))))

unfoldable pub quadrant_max : List (List ℕ) → ℕ → ℕ → ℤ
quadrant_max fs q t = cond (is_star (representative fs q t)) (pos 65536) (upper_end fs t (interval fs t (value_of (representative fs q t))))

unfoldable pub quadrant_word : List (List ℕ) → List (List ℕ) → ℕ → ℕ → ℤ
quadrant_word head fs q i =
    cond (eqb (i % 3) 0) (pos (dimension_of head (divider_field fs (i / 3))))
    (cond (eqb (i % 3) 1) (quadrant_min fs q (i / 3))
    (quadrant_max fs q (i / 3)))

-- ---- the step's kind and body: a quadrant is a box

abbrev pub leaf_kind : Leaf → Kind
leaf_kind (rect head fs) = Box
leaf_kind (poly head fs) = Polygon
leaf_kind (ellip head fs) = Ellipse
leaf_kind (decimal_ellip head fs) = DecimalEllipse
leaf_kind (ellip3 head fs) = Ellipsoid
leaf_kind (quadrant head fs q) = Box

abbrev pub leaf_words : Leaf → List ℤ
leaf_words (rect head fs) = tab (rect_word head fs) (length fs - 3)
leaf_words (poly head fs) = tab (plane_word head fs) (length fs - 3)
leaf_words (ellip head fs) = tab (plane_word head fs) (length fs - 3)
leaf_words (decimal_ellip head fs) = tab (decimal_word head fs) (length fs - 3)
leaf_words (ellip3 head fs) = tab (space_word head fs) (length fs - 3)
leaf_words (quadrant head fs q) = tab (quadrant_word head fs q) (3 * divider_count fs)
