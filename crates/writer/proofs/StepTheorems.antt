-- What is written for a region of an accepted line is its step in the table.
use mathlib.Core.Path.{◌≡◌, refl, sym, ap, ◌∙◌}
use mathlib.Core.Bool.{Bool, true, false, cond}
use mathlib.Core.Logic.{◌⊎◌, inl, inr}
use mathlib.Core.List.{List}
use Prim.Native.Nat.{ℕ, ◌+◌, ◌-◌, ◌*◌, ◌≤◌, ◌<◌, min}
use native.Mathlib.Omega.{arith}
use borrow.Author.Tests.{eqb-true, lt-ltb}
use lib.IntN.{ℤ, pos}
use lib.ListN.{length}
use Rattle.text.specs.Bounded.{tab}
use Rattle.text.proofs.TestLaws.{true≢false, passed_or_failed}
use Rattle.text.proofs.BoundedLaws.{length-tab, tab_ext}
use Rattle.plans.specs.Kinds.{kind_number, spans}
use Rattle.plans.proofs.IndexLaws.{first_to}
use Rattle.plans.proofs.KindLaws.{length_range}
use Rattle.gates.specs.declared.LineKind.{LineKind}
use Rattle.gates.specs.declared.LineKind.TheVariants.{Quad, And, Or, Not, Unknown}
use Rattle.gates.specs.Kinds.{field_at, line_kind, step_kind, is_unknown, is_quad, is_none, is_complement, operand_name}
use Rattle.gates.specs.Quads.{divider_count}
use Rattle.gates.specs.Rules.{no_refusal}
use Rattle.gates.specs.Refusal.{line_refusal}
use Rattle.gates.specs.Gate.{Name, Leaf, quadrant, leaf, Region}
use Rattle.gates.specs.Meaning.{operand_of, parent_of}
use Rattle.gates.specs.Inner.Regions.{region_count, region_name, line_shape, region_shape, step_number, combines, body_length, body_word_of}
use Rattle.gates.proofs.AcceptedLaws.{Accepted}
use Rattle.gates.proofs.QuadLaws.{count_small}
use Rattle.gates.proofs.LineSorts.{LineSort, drawn_line, quad_line, and_line, or_line, not_line, unknown_line, sort_of}
use Rattle.gates.proofs.GateLaws.{map-tab, leaf-words, line-accepted}
use Rattle.tables.specs.Table.{nth_region, other_name, number_of}
use Rattle.tables.specs.Steps.{shape_kind, reference_word, body_words, parent_word, step_words}
use Rattle.writer.specs.Inner.Words.{number_word, parent_number_word, header, operand_number_word, step_by, operand_at, parent_number, line_step}
use Rattle.writer.proofs.WordLaws.{step-length}

-- ---- numbers that are words as they are

pub number-kept : (n : ℕ) → n ≤ 65535 → number_word n ≡ pos n
unfolding number_word
number-kept n h = let e : min n 65535 ≡ n = omega arith in ap pos e

number-few : (rs : List Region) (n : Name) → number_of rs n ≤ length rs
unfolding number_of
number-few rs n = omega (arith, first_to (other_name rs n) 0 (length rs))

-- ---- the parent

module _ (rs : List Region) (x : List ℕ) where
  -- a parent that is named is a region
  parent_is : (is_none x ≡ false → number_of rs x < 64) → parent_number_word (cond (is_none x) 64 (min 64 (number_of rs x))) ≡ parent_word rs (parent_of x)
  unfolding parent_number_word parent_of
  parent_is h = go (passed_or_failed (is_none x))
    where
      go : (is_none x ≡ true) ⊎ (is_none x ≡ false) → parent_number_word (cond (is_none x) 64 (min 64 (number_of rs x))) ≡ parent_word rs (parent_of x)
      go (inl e) = rw e
      go (inr e) =
          let b : number_of rs x < 64 = h e in
          let m : min 64 (number_of rs x) ≡ number_of rs x = omega arith in
          rw (e, m, lt-ltb (number_of rs x) 64 b)

-- ---- by the sort of an accepted line

kind_in : (head : List (List ℕ)) (kind : LineKind) (fs : List (List ℕ)) (q : ℕ) → LineSort head fs kind → is_unknown kind ≡ false
    → step_number kind ≡ kind_number (shape_kind (line_shape head kind fs q))
kind_in head kind fs q (drawn_line d) u = rw d.body (ap kind_number (sym d.step))
kind_in head Quad fs q quad_line u = refl
kind_in head And fs q and_line u = refl
kind_in head Or fs q or_line u = refl
kind_in head Not fs q not_line u = refl
kind_in head Unknown fs q unknown_line u = absurd (true≢false u)

length_in : (head : List (List ℕ)) (kind : LineKind) (fs : List (List ℕ)) → Accepted head kind fs
    → cond (is_quad kind) (3 * divider_count fs) (length fs - 3) ≤ 65535
length_in head kind fs a = go (passed_or_failed (is_quad kind))
  where
    go : (is_quad kind ≡ true) ⊎ (is_quad kind ≡ false) → cond (is_quad kind) (3 * divider_count fs) (length fs - 3) ≤ 65535
    go (inl e) = rw e (let h = count_small (field_at fs 3) in omega arith)
    go (inr e) = rw e (let h = length_range (step_kind kind) (length fs - 3) (rw e at a.shape) in omega arith)

leaf_in : (head : List (List ℕ)) (kind : LineKind) (fs : List (List ℕ)) (q : ℕ) → LineSort head fs kind → is_unknown kind ≡ false → combines kind ≡ false
    → (l : Leaf) × (line_shape head kind fs q ≡ leaf l)
unfolding spans
leaf_in head kind fs q (drawn_line d) u c = (d.shape, rw d.body)
leaf_in head Quad fs q quad_line u c = (quadrant head fs q, refl)
leaf_in head And fs q and_line u c = absurd (true≢false c)
leaf_in head Or fs q or_line u c = absurd (true≢false c)
leaf_in head Not fs q not_line u c = absurd (true≢false c)
leaf_in head Unknown fs q unknown_line u c = absurd (true≢false u)

abbrev reference : List Region → List (List ℕ) → ℕ → ℤ
reference rs fs j = reference_word rs (operand_of (field_at fs (3 + j)))

operands_in : (rs : List Region) (head : List (List ℕ)) (kind : LineKind) (fs : List (List ℕ)) (q : ℕ) → LineSort head fs kind → Accepted head kind fs
    → combines kind ≡ true
    → body_words rs (line_shape head kind fs q) ≡ tab (reference rs fs) (cond (is_quad kind) (3 * divider_count fs) (length fs - 3))
unfolding spans
operands_in rs head kind fs q (drawn_line d) a c = absurd (true≢false (sym c ∙ d.uncombined))
operands_in rs head Quad fs q quad_line a c = absurd (true≢false (sym c))
operands_in rs head And fs q and_line a c = map-tab (reference_word rs) (λ j. operand_of (field_at fs (3 + j))) (length fs - 3)
operands_in rs head Or fs q or_line a c = map-tab (reference_word rs) (λ j. operand_of (field_at fs (3 + j))) (length fs - 3)
operands_in rs head Not fs q not_line a c = rw (eqb-true (length fs - 3) 1 a.shape)
operands_in rs head Unknown fs q unknown_line a c = absurd (true≢false (sym c))

-- ---- the step of a region

body-short : (head fs : List (List ℕ)) → line_refusal head fs ≡ no_refusal → body_length fs ≤ 65535
unfolding body_length
body-short head fs good = length_in head (line_kind fs) fs (line-accepted head fs good)

module _ (rs : List Region) (few : length rs ≤ 64) (r : ℕ) (below : r < length rs) (head fs : List (List ℕ)) (good : line_refusal head fs ≡ no_refusal) (q : ℕ)
    (here : nth_region rs r ≡ record { name = region_name fs q; parent = parent_of (field_at fs 2); shape = region_shape head fs q })
    (p : ℕ) (parent : parent_number_word p ≡ parent_word rs (parent_of (field_at fs 2))) where
  line : Accepted head (line_kind fs) fs
  line = line-accepted head fs good

  kind-is : step_number (line_kind fs) ≡ kind_number (shape_kind (region_shape head fs q))
  unfolding region_shape
  kind-is = kind_in head (line_kind fs) fs q (sort_of head fs (line_kind fs)) line.known

  -- the step, where the body is known
  whole : (f : ℕ → ℤ) → body_words rs (region_shape head fs q) ≡ tab f (body_length fs) → step_by fs r p f ≡ step_words rs r
  unfolding header step_words
  whole f e = rw (here, e, length-tab f (body_length fs), parent, number-kept r (omega arith), number-kept (body_length fs) (body-short head fs good), kind-is)

  the_leaf : combines (line_kind fs) ≡ false → (l : Leaf) × (region_shape head fs q ≡ leaf l)
  unfolding region_shape
  the_leaf c = leaf_in head (line_kind fs) fs q (sort_of head fs (line_kind fs)) line.known c

  leaf-step : length head ≤ 8 → q < region_count fs → combines (line_kind fs) ≡ false → step_by fs r p (body_word_of head fs q) ≡ step_words rs r
  leaf-step eight h c = let l = the_leaf c in whole (body_word_of head fs q) (ap (body_words rs) l.1 ∙ leaf-words head fs eight q h l.0 l.1)

  operands : combines (line_kind fs) ≡ true → body_words rs (region_shape head fs q) ≡ tab (reference rs fs) (body_length fs)
  unfolding region_shape body_length
  operands c = operands_in rs head (line_kind fs) fs q (sort_of head fs (line_kind fs)) line c

  operand_same : (j : ℕ) → reference rs fs j ≡ operand_at rs fs j
  unfolding operand_at operand_number_word
  operand_same j =
      let x = field_at fs (3 + j) in
      let m : min 64 (number_of rs (operand_name x)) ≡ number_of rs (operand_name x) = omega (arith, number-few rs (operand_name x)) in
      sym (rw m (number-kept (2 * number_of rs (operand_name x) + cond (is_complement x) 1 0)
      (omega (arith, number-few rs (operand_name x), bit (is_complement x)))))
    where
      bit : (b : Bool) → cond b 1 0 ≤ 1
      bit true = omega arith
      bit false = omega arith

  combination-step : combines (line_kind fs) ≡ true → step_by fs r p (operand_at rs fs) ≡ step_words rs r
  combination-step c = whole (operand_at rs fs) (operands c ∙ tab_ext (reference rs fs) (operand_at rs fs) (body_length fs) (λ j h. operand_same j))

-- ---- as it is written

module _ (rs : List Region) (few : length rs ≤ 64) (r : ℕ) (below : r < length rs) (head fs : List (List ℕ)) (narrow : length head ≤ 8)
    (good : line_refusal head fs ≡ no_refusal) (q : ℕ) (inside : q < region_count fs)
    (here : nth_region rs r ≡ record { name = region_name fs q; parent = parent_of (field_at fs 2); shape = region_shape head fs q })
    (known : is_none (field_at fs 2) ≡ false → number_of rs (field_at fs 2) < 64) where
  pub line_step_lem : line_step head rs fs q r ≡ step_words rs r
  unfolding line_step parent_number
  line_step_lem = go (passed_or_failed (combines (line_kind fs)))
    where
      go : (combines (line_kind fs) ≡ true) ⊎ (combines (line_kind fs) ≡ false) → line_step head rs fs q r ≡ step_words rs r
      go (inl t) = rw t (combination-step rs few r below head fs good q here _ (parent_is rs (field_at fs 2) known) t)
      go (inr t) = rw t (leaf-step rs few r below head fs good q here _ (parent_is rs (field_at fs 2) known) narrow inside t)

  pub line-step-short : length (step_words rs r) ≤ 65539
  unfolding line_step
  line-step-short =
      let long = step-length fs r (parent_number rs fs) (cond (combines (line_kind fs)) (operand_at rs fs) (body_word_of head fs q)) in
      omega (arith, long, ap length line_step_lem, body-short head fs good)
