-- The words of a step where it stands in a plan.
use mathlib.Core.Path.{◌≡◌, refl, sym, ap, ◌∙◌}
use mathlib.Core.Bool.{Bool, true, false, cond}
use mathlib.Core.List.{List, [], ◌∷◌, ◌++◌, map}
use Prim.Native.Nat.{ℕ, zero, suc, ◌+◌, ◌*◌, ◌/◌, ◌%◌, ◌<◌}
use native.Mathlib.Omega.{arith}
use native.Mathlib.Nat.{add-zero}
use lib.Dec.{eqb}
use lib.IntN.{ℤ, pos}
use lib.ListN.{length, get_or, length-append}
use lib.Seq.{get_or-append-add, drop-append-add, take-append_seam}
use Rattle.plans.specs.Words.{word, number, part}
use Rattle.plans.specs.Form.{kind_at, region_at, length_at, body_at, next_at}
use Rattle.plans.specs.Kinds.{kind_number, kind_of}
use Rattle.plans.proofs.KindLaws.{kind-back}
use Rattle.gates.specs.Gate.{Operand, Region}
use Rattle.tables.specs.Table.{nth_region, number_of}
use Rattle.tables.specs.Steps.{shape_kind, reference_word, body_words, parent_word, step_words}

-- ---- the words of a step that stands after others

module _ (before : List ℤ) (k r p : ℤ) (body rest : List ℤ) where
  abbrev plan : List ℤ
  plan = before ++ (k ∷ r ∷ p ∷ pos (length body) ∷ (body ++ rest))

  word_at : (j : ℕ) → word plan (length before + j) ≡ word (k ∷ r ∷ p ∷ pos (length body) ∷ (body ++ rest)) j
  unfolding word
  word_at j = get_or-append-add before _ j _

  kind-there : kind_at plan (length before) ≡ kind_of (number k)
  unfolding kind_at word
  kind-there = ap (λ (i : ℕ). kind_of (number (word plan i))) (sym (add-zero (length before))) ∙ ap (λ (w : ℤ). kind_of (number w)) (word_at 0)

  region-there : region_at plan (length before) ≡ number r
  unfolding region_at word
  region-there = ap number (word_at 1)

  parent-there : word plan (length before + 2) ≡ p
  unfolding word
  parent-there = word_at 2

  length-there : length_at plan (length before) ≡ length body
  unfolding length_at word number
  length-there = ap number (word_at 3)

  body-there : body_at plan (length before) ≡ body
  unfolding body_at part
  body-there = rw (length-there, drop-append-add before (k ∷ r ∷ p ∷ pos (length body) ∷ (body ++ rest)) 4) (take-append_seam body rest)

  next-there : next_at plan (length before) ≡ length before + 4 + length body
  unfolding next_at
  next-there = rw length-there

-- ---- the step of region r between other words

module _ (rs : List Region) (r : ℕ) (before rest : List ℤ) where
  abbrev x : Region
  x = nth_region rs r

  abbrev p : List ℤ
  p = before ++ (step_words rs r ++ rest)

  abbrev body : List ℤ
  body = body_words rs x.shape

  pub kind-is : kind_at p (length before) ≡ shape_kind x.shape
  unfolding step_words number
  kind-is = kind-there before (pos (kind_number (shape_kind x.shape))) (pos r) (parent_word rs x.parent) body rest ∙ kind-back (shape_kind x.shape)

  pub region-is : region_at p (length before) ≡ r
  unfolding step_words number
  region-is = region-there before (pos (kind_number (shape_kind x.shape))) (pos r) (parent_word rs x.parent) body rest

  pub parent_is : word p (length before + 2) ≡ parent_word rs x.parent
  unfolding step_words
  parent_is = parent-there before (pos (kind_number (shape_kind x.shape))) (pos r) (parent_word rs x.parent) body rest

  pub length-is : length_at p (length before) ≡ length body
  unfolding step_words
  length-is = length-there before (pos (kind_number (shape_kind x.shape))) (pos r) (parent_word rs x.parent) body rest

  pub body_is : body_at p (length before) ≡ body
  unfolding step_words
  body_is = body-there before (pos (kind_number (shape_kind x.shape))) (pos r) (parent_word rs x.parent) body rest

  pub next-is : next_at p (length before) ≡ length (before ++ step_words rs r)
  unfolding step_words
  next-is = next-there before (pos (kind_number (shape_kind x.shape))) (pos r) (parent_word rs x.parent) body rest ∙ simp length-append (omega arith)

-- ---- operands

abbrev pub no_operand : Operand
no_operand = record { complement = false; name = [] }

module _ (rs : List Region) where
  pub reference-there : (os : List Operand) (i : ℕ) → i < length os → word (map (reference_word rs) os) i ≡ reference_word rs (get_or os i no_operand)
  unfolding word
  reference-there [] i h = absurd (omega arith)
  reference-there (o ∷ os) zero h = refl
  reference-there (o ∷ os) (suc i) h = reference-there os i (omega arith)

  half : (m : ℕ) (b : Bool) → (2 * m + cond b 1 0) / 2 ≡ m
  half m true = omega arith
  half m false = omega arith

  pub reference-region : (o : Operand) → number (reference_word rs o) / 2 ≡ number_of rs o.name
  unfolding number
  reference-region o = half (number_of rs o.name) o.complement

  odd : (m : ℕ) (b : Bool) → eqb ((2 * m + cond b 1 0) % 2) 1 ≡ b
  odd m true = let e : (2 * m + 1) % 2 ≡ 1 = omega arith in rw e
  odd m false = let e : (2 * m + 0) % 2 ≡ 0 = omega arith in rw e

  pub reference-odd : (o : Operand) → eqb (number (reference_word rs o) % 2) 1 ≡ o.complement
  unfolding number
  reference-odd o = odd (number_of rs o.name) o.complement
