-- Floats that know less than those of today: a plan of today is refused by them at its lowest new word or passes, and what passes there passes today.
use mathlib.Core.Path.{◌≡◌, refl, sym, ap, ◌∙◌}
use mathlib.Core.Bool.{Bool, true, false, not, cond, ◌&&◌}
use mathlib.Core.Logic.{inl, inr}
use mathlib.Core.List.{List}
use Prim.Native.Nat.{ℕ, zero, suc, ◌+◌, ◌-◌, ◌<◌, ◌≤◌}
use native.Mathlib.Omega.{arith}
use native.Mathlib.Decide.{dec_lt, ℕ_discrete}
use lib.IntN.{ℤ}
use lib.ListN.{length}
use lib.Dec.{eqb}
use borrow.Author.Tests.{lt-ltb, le-ltb, eq-eqb, ne_eqb, eqb-true, ltb-true, not-true, not-false}
use Rattle.plans.specs.Bits.{with_bit}
use Rattle.plans.specs.Refusals.{passed, refused}
use Rattle.plans.specs.Kinds.{kind_number, known, spans}
use Rattle.plans.specs.Form.{Float, today, first, kind_at, region_at, length_at, next_at, head_word_for, head_word, steps_word_for, steps_word, width, step_count, word_good_for, word_good, plan_end, lowest_bad_for, form_for, check_for, check_of}
use Rattle.plans.specs.NewWords.{new_step_word, new_word, old_word, lowest_new, holds_new, NewToFirst}
use Rattle.plans.specs.declared.Kind.{Kind}
use Rattle.plans.specs.declared.Kind.TheVariants.{Box, Polygon, Ellipse, And, Or, Not, DecimalEllipse, Ellipsoid, Unknown}
use Rattle.plans.proofs.IndexLaws.{clash, and_both, and_right-false, first-same, first-before, first-at, first-none, first-is}
use Rattle.plans.proofs.KindLaws.{spans-both}
use Rattle.plans.proofs.PlanTheorems.{form→passed, passed→form}

-- a float knows no kind that none of today knows
abbrev pub KnowsLess : Float → Type 0
KnowsLess f = (kind : Kind) → f.knows kind ≡ true → known kind ≡ true

pub first_less : KnowsLess first
unfolding spans
first_less kind e = lt-ltb 0 (kind_number kind) (let h = spans-both 1 6 (kind_number kind) e in omega arith)

-- what today knows and a float of the first issue does not
pub new-to-first : (kind : Kind) → known kind ≡ true → first.knows kind ≡ false → NewToFirst kind
unfolding spans
new-to-first Box k e = absurd (clash e)
new-to-first Polygon k e = absurd (clash e)
new-to-first Ellipse k e = absurd (clash e)
new-to-first And k e = absurd (clash e)
new-to-first Or k e = absurd (clash e)
new-to-first Not k e = absurd (clash e)
new-to-first DecimalEllipse k e = inl refl
new-to-first Ellipsoid k e = inr refl
new-to-first Unknown k e = absurd (clash (sym k))

pub unknown_to-first : (kind : Kind) → NewToFirst kind → first.knows kind ≡ false
unfolding spans
unknown_to-first kind (inl e) = rw e refl
unknown_to-first kind (inr e) = rw e refl

and_true : (x : Bool) → (x && true) ≡ x
and_true true = refl
and_true false = refl

same_start : (at i : ℕ) → at ≤ i → eqb (i - at) 0 ≡ eqb i at
same_start at i h = go (ℕ_discrete i at)
  where
    go : Dec (i ≡ at) → eqb (i - at) 0 ≡ eqb i at
    go (yes e) = rw (eq-eqb i at e, eq-eqb (i - at) 0 (omega arith))
    go (no n) = rw (ne_eqb i at n, ne_eqb (i - at) 0 (λ z. n (omega arith)))

-- ---- the lowest new word, to any float

module _ (f : Float) (p : List ℤ) where
  pub lowest_inside : holds_new f p ≡ true → lowest_new f p < length p
  unfolding holds_new
  lowest_inside e = ltb-true (lowest_new f p) (length p) e

  -- it is new, and those before it are not
  pub lowest_is-new : holds_new f p ≡ true → new_word f p (lowest_new f p) ≡ true
  unfolding lowest_new old_word
  lowest_is-new e = not-false _ (first-at (old_word f p) 0 (length p) (let l = lowest_inside e in omega arith))

  pub nothing-before : (i : ℕ) → i < lowest_new f p → new_word f p i ≡ false
  unfolding lowest_new old_word
  nothing-before i l = not-true _ (first-before (old_word f p) 0 (length p) i (omega arith) l)

  -- any new word within the plan is one
  pub holds-some : (i : ℕ) → i < length p → new_word f p i ≡ true → holds_new f p ≡ true
  unfolding holds_new
  holds-some i l e = lt-ltb (lowest_new f p) (length p) (go (dec_lt (lowest_new f p) (length p)))
    where
      go : Dec (lowest_new f p < length p) → lowest_new f p < length p
      go (yes h) = h
      go (no h) = absurd (clash (sym e ∙ nothing-before i (omega arith)))

next-later : (p : List ℤ) (at : ℕ) → at + 4 ≤ next_at p at
unfolding next_at
next-later p at = omega arith

module _ (f : Float) (less : KnowsLess f) where
  -- ---- a word is good to the float where it is good today and not new

  -- a kind's word
  kind_for : (kind : Kind) → f.knows kind ≡ (known kind && not (true && not (f.knows kind)))
  kind_for kind = go (f.knows kind) refl
    where
      go : (b : Bool) → f.knows kind ≡ b → b ≡ (known kind && not (true && not b))
      go true e = rw (less kind e)
      go false e = sym (and_right-false (known kind))

  -- a test that differs from another only where b says so
  differ-at : (b x y other : Bool) → x ≡ (y && not (true && not x)) → cond b x other ≡ (cond b y other && not (b && not x))
  differ-at true x y other e = e
  differ-at false x y other e = sym (and_true other)

  module _ (p : List ℤ) (n k : ℕ) where
    head_for : (set at j : ℕ) → head_word_for f p k set at j ≡ (head_word p k set at j && not (eqb j 0 && not (f.knows (kind_at p at))))
    unfolding head_word_for
    head_for set at j = differ-at (eqb j 0) (f.knows (kind_at p at)) (known (kind_at p at)) _ (kind_for (kind_at p at))

    kind-good : (set at : ℕ) → head_word p k set at 0 ≡ true → known (kind_at p at) ≡ true
    unfolding head_word_for
    kind-good set at e = e

    steps_for : (left set at i : ℕ) → at ≤ i
        → steps_word_for f left p n k set at i ≡ (steps_word left p n k set at i && not (new_step_word f left p at i))
    unfolding steps_word_for new_step_word
    steps_for zero set at i h = refl
    steps_for (suc left) set at i h =
        go (dec_lt i (at + 4)) (dec_lt i (next_at p at)) (next-later p at) (steps_for left (with_bit set (region_at p at)) (next_at p at) i)
      where
        go : Dec (i < at + 4) → Dec (i < next_at p at) → at + 4 ≤ next_at p at
            → (next_at p at ≤ i → steps_word_for f left p n k (with_bit set (region_at p at)) (next_at p at) i
            ≡ (steps_word left p n k (with_bit set (region_at p at)) (next_at p at) i && not (new_step_word f left p (next_at p at) i)))
            → steps_word_for f (suc left) p n k set at i ≡ (steps_word (suc left) p n k set at i && not (new_step_word f (suc left) p at i))
        go (yes a) d b later =
            rw (lt-ltb i (at + 4) a, lt-ltb i (next_at p at) (omega arith), ← same_start at i h) (head_for set at (i - at))
        go (no a) (yes c) b later =
            rw (le-ltb i (at + 4) (omega arith), lt-ltb i (next_at p at) c, ne_eqb i at (λ e. omega arith)) (sym (and_true _))
        go (no a) (no c) b later =
            rw (le-ltb i (at + 4) (omega arith), le-ltb i (next_at p at) (omega arith))
            (later (omega arith))

    -- a new word that is good today is the word of a kind that the float does not know
    steps-kind : (left set at i : ℕ) → steps_word left p n k set at i ≡ true → new_step_word f left p at i ≡ true
        → (f.knows (kind_at p i) ≡ false) × (known (kind_at p i) ≡ true)
    unfolding steps_word_for new_step_word
    steps-kind zero set at i g e = absurd (clash (sym e))
    steps-kind (suc left) set at i g e =
        go (dec_lt i (next_at p at)) (next-later p at) g e (steps-kind left (with_bit set (region_at p at)) (next_at p at) i)
      where
        here : i ≡ at → steps_word (suc left) p n k set at i ≡ true → not (f.knows (kind_at p at)) ≡ true
            → (f.knows (kind_at p i) ≡ false) × (known (kind_at p i) ≡ true)
        here q good new =
            let zero-th : i - at ≡ 0 = omega arith in
            (rw q (not-true _ new), rw q (kind-good set at (rw (lt-ltb i (at + 4) (omega arith), zero-th) at good)))

        go : Dec (i < next_at p at) → at + 4 ≤ next_at p at → steps_word (suc left) p n k set at i ≡ true → new_step_word f (suc left) p at i ≡ true
            → (steps_word left p n k (with_bit set (region_at p at)) (next_at p at) i ≡ true → new_step_word f left p (next_at p at) i ≡ true
            → (f.knows (kind_at p i) ≡ false) × (known (kind_at p i) ≡ true))
            → (f.knows (kind_at p i) ≡ false) × (known (kind_at p i) ≡ true)
        go (yes c) b good new later =
            let both = and_both (eqb i at) (not (f.knows (kind_at p at))) (rw (lt-ltb i (next_at p at) c) at new) in
            here (eqb-true i at both.0) good both.1
        go (no c) b good new later =
            later (rw (le-ltb i (at + 4) (omega arith), le-ltb i (next_at p at) (omega arith)) at good) (rw (le-ltb i (next_at p at) (omega arith)) at new)

  module _ (p : List ℤ) where
    new-later : (i : ℕ) → i < 2 → new_word f p i ≡ false
    unfolding new_word new_step_word next_at
    new-later i h = go (step_count p)
      where
        go : (left : ℕ) → new_step_word f left p 2 i ≡ false
        go zero = refl
        go (suc left) = rw (lt-ltb i (2 + 4 + length_at p 2) (omega arith), ne_eqb i 2 (λ e. omega arith))

    steps_are : (i : ℕ) → 2 ≤ i
        → steps_word_for f (step_count p) p (width p) (step_count p) 0 2 i
        ≡ (steps_word (step_count p) p (width p) (step_count p) 0 2 i && not (new_word f p i))
    unfolding new_word
    steps_are i h = steps_for p (width p) (step_count p) (step_count p) 0 2 i h

    kind-at-new : (i : ℕ) → new_word f p i ≡ true → word_good p i ≡ true → (f.knows (kind_at p i) ≡ false) × (known (kind_at p i) ≡ true)
    unfolding word_good_for new_word
    kind-at-new i e g = go (dec_lt i 2)
      where
        go : Dec (i < 2) → (f.knows (kind_at p i) ≡ false) × (known (kind_at p i) ≡ true)
        go (yes h) = absurd (clash (sym e ∙ new-later i h))
        go (no h) =
            steps-kind p (width p) (step_count p) (step_count p) 0 2 i (rw (ne_eqb i 0 (λ q. omega arith), ne_eqb i 1 (λ q. omega arith)) at g) e

    pub word_for : (i : ℕ) → word_good_for f p i ≡ (word_good p i && old_word f p i)
    unfolding old_word word_good_for
    word_for i = go (ℕ_discrete i 0) (ℕ_discrete i 1)
      where
        go : Dec (i ≡ 0) → Dec (i ≡ 1) → word_good_for f p i ≡ (word_good p i && not (new_word f p i))
        go (yes e) d = rw (new-later i (omega arith), eq-eqb i 0 e) (sym (and_true _))
        go (no e) (yes d) = rw (new-later i (omega arith), ne_eqb i 0 e, eq-eqb i 1 d) (sym (and_true _))
        go (no e) (no d) = rw (ne_eqb i 0 e, ne_eqb i 1 d) (steps_are i (omega arith))

    -- ---- a plan that passes to the float

    -- passes today, and nothing in it is new to the float
    module _ (ok : check_for f p ≡ passed) where
      both-good : (i : ℕ) → i < length p → (word_good p i ≡ true) × (old_word f p i ≡ true)
      both-good i l = and_both (word_good p i) (old_word f p i) (sym (word_for i) ∙ (passed→form f p ok).1.words i l)

      pub passes-today : check_of p ≡ passed
      passes-today =
          let form = passed→form f p ok in
          form→passed today p form.0 (record { words = λ i l. (both-good i l).0; ends = form.1.ends })

      pub nothing-new : holds_new f p ≡ false
      unfolding holds_new lowest_new
      nothing-new =
          let e = first-none (old_word f p) 0 (length p) (λ i a l. (both-good i (omega arith)).1) in
          rw e (le-ltb (0 + length p) (length p) (omega arith))

    -- ---- a plan that passes today

    module _ (ok : check_of p ≡ passed) where
      lowest_for : lowest_bad_for f p ≡ lowest_new f p
      unfolding lowest_bad_for lowest_new
      lowest_for = first-same (word_good_for f p) (old_word f p) 0 (length p) (λ i a l. word_for i ∙ rw ((passed→form today p ok).1.words i (omega arith)))

      -- is refused by 22 at its lowest new word, or passes where nothing is new
      pub check_for_lem : check_for f p ≡ cond (holds_new f p) (refused 22 (lowest_new f p)) passed
      unfolding check_for form_for holds_new
      check_for_lem =
          let form = passed→form today p ok in
          rw (le-ltb 4096 (length p) form.0, lowest_for, eq-eqb (plan_end p) (length p) form.1.ends)

      pub new-refused : holds_new f p ≡ true → check_for f p ≡ refused 22 (lowest_new f p)
      new-refused e = check_for_lem ∙ rw e

      pub old-passes : holds_new f p ≡ false → check_for f p ≡ passed
      old-passes e = check_for_lem ∙ rw e

      -- that word is the one that a reader finds: new, and nothing before it
      module _ (place : ℕ) (inside : place < length p) (new : new_word f p place ≡ true) (old : (i : ℕ) → i < place → new_word f p i ≡ false) where
        lowest_is : lowest_new f p ≡ place
        unfolding lowest_new old_word
        lowest_is = first-is (old_word f p) 0 (length p) place (omega arith) (omega arith) (λ j a m. rw (old j m)) (rw new)

        pub refused-at-new : check_for f p ≡ refused 22 place
        refused-at-new = new-refused (holds-some f p place inside new) ∙ ap (refused 22) lowest_is

      -- the lowest new word is that of a kind which today knows and the float does not
      pub new-kind : holds_new f p ≡ true → (f.knows (kind_at p (lowest_new f p)) ≡ false) × (known (kind_at p (lowest_new f p)) ≡ true)
      new-kind new =
          kind-at-new (lowest_new f p) (lowest_is-new f p new) ((passed→form today p ok).1.words (lowest_new f p) (lowest_inside f p new))

-- for a float of the first issue: one of the kinds that have come since
pub first-at-new : (p : List ℤ) → check_of p ≡ passed → holds_new first p ≡ true → NewToFirst (kind_at p (lowest_new first p))
first-at-new p ok new = let k = new-kind first first_less p ok new in new-to-first (kind_at p (lowest_new first p)) k.1 k.0
