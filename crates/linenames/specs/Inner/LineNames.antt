-- The names that gate lines give and refer to, by index; fs and gs are the fields of lines. `proofs/` says that they are the gates'.
use Rattle.std.specs.Prelude.{Bool, not, cond, ◌&&◌, ◌||◌, List, [], ℕ, ◌-◌, max, ltb, eqb, length}
use Rattle.plans.specs.Indices.{all, any, first_bad}
use Rattle.text.specs.Bytes.{same}
use Rattle.gates.specs.Kinds.{field_at, line_kind, is_quad, is_none, operand_name}
use Rattle.gates.specs.Quads.{quadrant_count, quadrant_at}
use Rattle.gates.specs.Inner.Regions.{region_count, region_name, step_number, combines}
use Rattle.gates.specs.declared.LineKind.{LineKind}

-- ---- regions

unfoldable pub other_region : List (List ℕ) → List ℕ → ℕ → Bool
other_region fs x q = not (same x (region_name fs q))

-- the first region of the line with name x, or their number
unfoldable pub region_named : List (List ℕ) → List ℕ → ℕ
region_named fs x = first_bad (other_region fs x) 0 (region_count fs)

unfoldable pub names_region : List (List ℕ) → List ℕ → Bool
names_region fs x = ltb (region_named fs x) (region_count fs)

-- ---- names given: the gate's, then its quadrants'

unfoldable pub quad_count : List (List ℕ) → ℕ
quad_count fs = cond (is_quad (line_kind fs)) (quadrant_count fs) 0

unfoldable pub quadrant_name : List (List ℕ) → ℕ → List ℕ
quadrant_name fs q = cond (ltb q (quadrant_count fs)) (field_at fs (quadrant_at fs q)) []

unfoldable pub other_quadrant : List (List ℕ) → List ℕ → ℕ → Bool
other_quadrant fs x q = not (same x (quadrant_name fs q))

-- the first quadrant with name x, or their number
unfoldable pub quadrant_named : List (List ℕ) → List ℕ → ℕ
quadrant_named fs x = first_bad (other_quadrant fs x) 0 (quad_count fs)

unfoldable pub gives_name : List (List ℕ) → List ℕ → Bool
gives_name fs x = same x (field_at fs 1) || ltb (quadrant_named fs x) (quad_count fs)

unfoldable pub shares_quadrant : List (List ℕ) → List (List ℕ) → ℕ → Bool
shares_quadrant fs gs q = gives_name gs (quadrant_name fs q)

-- a name that the first line gives is one that the other gives
unfoldable pub shares_name : List (List ℕ) → List (List ℕ) → Bool
shares_name fs gs = gives_name gs (field_at fs 1) || any (shares_quadrant fs gs) (quad_count fs)

-- the name of quadrant q is not the gate's, nor that of an earlier quadrant
unfoldable pub new_quadrant : List (List ℕ) → ℕ → Bool
new_quadrant fs q = not (same (quadrant_name fs q) (field_at fs 1)) && eqb (quadrant_named fs (quadrant_name fs q)) q

-- the names that a line gives are different
unfoldable pub own_different : List (List ℕ) → Bool
own_different fs = all (new_quadrant fs) (quad_count fs)

-- ---- references: field 2 is the parent; operands stand from field 3 on

-- the field after the last operand: a `not`, whose step has number 6, has one, and the others have all that follow
abbrev pub end_in : LineKind → ℕ → ℕ
end_in kind n = cond (combines kind) (cond (eqb (step_number kind) 6) 4 (max 3 n)) 3

unfoldable pub reference_end : List (List ℕ) → ℕ
reference_end fs = end_in (line_kind fs) (length fs)

-- field k names a region: an operand, or a parent that is not `-`
unfoldable pub has_reference : List (List ℕ) → ℕ → Bool
has_reference fs k = not (eqb k 2 && is_none (field_at fs 2))

unfoldable pub reference_at : List (List ℕ) → ℕ → List ℕ
reference_at fs k = cond (eqb k 2) (field_at fs 2) (operand_name (field_at fs k))

-- field k of a line names no region of another
unfoldable pub passes_by : List (List ℕ) → List (List ℕ) → ℕ → Bool
passes_by fs gs k = not (has_reference fs k && names_region gs (reference_at fs k))

-- a line refers to a region of another
unfoldable pub refers_line : List (List ℕ) → List (List ℕ) → Bool
refers_line fs gs = ltb (first_bad (passes_by fs gs) 2 (reference_end fs - 2)) (reference_end fs)
