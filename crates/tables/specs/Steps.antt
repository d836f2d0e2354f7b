-- The order of a plan's steps, and its words.
use Rattle.std.specs.Prelude.{Bool, not, ◌&&◌, cond, List, [], ◌∷◌, ◌++◌, map, ℕ, zero, suc, ◌+◌, ◌*◌, ℤ, pos, negsuc, length, ltb}
use Rattle.std.proofs.Math.Option.{Option, none, some}
use Rattle.plans.specs.Indices.{first_bad}
use Rattle.plans.specs.Bits.{has_bit, with_bit}
use Rattle.plans.specs.Kinds.{kind_number}
use Rattle.plans.specs.declared.Kind.{Kind}
use Rattle.plans.specs.declared.Kind.TheVariants.{And, Or, Not}
use Rattle.text.specs.Bytes.{every}
use Rattle.gates.specs.Gate.{Name, Operand, Shape, leaf, and_of, or_of, not_of, Region}
use Rattle.gates.specs.Encoding.{leaf_kind, leaf_words}
use Rattle.tables.specs.Table.{nth_region, number_of, references}

-- ---- the order (01: "The next step written is that of the lowest region not yet written whose parent and operands are"); written is the set of regions
-- whose steps are written, as bits

unfoldable pub is_written : List Region → ℕ → Name → Bool
is_written rs written n = has_bit written (number_of rs n)

-- region r is not yet written, and its parent and operands are
unfoldable pub ready : List Region → ℕ → ℕ → Bool
ready rs written r = not (has_bit written r) && every (is_written rs written) (references (nth_region rs r))

unfoldable pub waiting : List Region → ℕ → ℕ → Bool
waiting rs written r = not (ready rs written r)

-- the lowest region that is ready, or the number of regions
unfoldable pub next_region : List Region → ℕ → ℕ
next_region rs written = first_bad (waiting rs written) 0 (length rs)

-- the next k steps, by their regions
unfoldable pub order_from : ℕ → List Region → ℕ → List ℕ
order_from zero rs written = []
order_from (suc k) rs written =
    cond (ltb (next_region rs written) (length rs)) (next_region rs written ∷ order_from k rs (with_bit written (next_region rs written))) []

unfoldable pub order : List Region → List ℕ
order rs = order_from (length rs) rs 0

-- ---- the words of a step: kind, region, parent, body length, body

abbrev pub shape_kind : Shape → Kind
shape_kind (leaf l) = leaf_kind l
shape_kind (and_of os) = And
shape_kind (or_of os) = Or
shape_kind (not_of o) = Not

-- 2 × region, plus 1 for `!`
abbrev pub reference_word : List Region → Operand → ℤ
reference_word rs o = pos (2 * number_of rs o.name + cond o.complement 1 0)

abbrev pub body_words : List Region → Shape → List ℤ
body_words rs (leaf l) = leaf_words l
body_words rs (and_of os) = map (reference_word rs) os
body_words rs (or_of os) = map (reference_word rs) os
body_words rs (not_of o) = reference_word rs o ∷ []

-- −1 for none
abbrev pub parent_word : List Region → Option Name → ℤ
parent_word rs none = negsuc 0
parent_word rs (some n) = pos (number_of rs n)

abbrev pub header_words : List Region → ℕ → Region → List ℤ
header_words rs r x =
    pos (kind_number (shape_kind x.shape)) ∷ pos r ∷ parent_word rs x.parent ∷ pos (length (body_words rs x.shape)) ∷ []

unfoldable pub step_words : List Region → ℕ → List ℤ
step_words rs r = header_words rs r (nth_region rs r) ++ body_words rs (nth_region rs r).shape

-- ---- the words of the plan: n, the number of steps, one for each region, then the steps

abbrev pub steps_words : List Region → List ℕ → List ℤ
steps_words rs [] = []
steps_words rs (r ∷ o) = step_words rs r ++ steps_words rs o

unfoldable pub plan_words : ℕ → List Region → List ℤ
plan_words n rs = pos n ∷ pos (length rs) ∷ steps_words rs (order rs)
