-- The words of a plan that passes fit 32 bits: each good word lies in a range that does.
use mathlib.Core.Path.{◌≡◌, refl, sym}
use mathlib.Core.Bool.{Bool, true, false, ◌||◌}
use mathlib.Core.List.{List, [], ◌∷◌}
use Prim.Native.Nat.{ℕ, zero, suc, ◌+◌, ◌-◌, ◌≤◌, ◌<◌}
use native.Mathlib.Omega.{arith}
use lib.Dec.{eqb, ltb}
use lib.IntN.{ℤ, negsuc}
use lib.ListN.{length}
use lib.Seq.{get_or-drop, get_or-take}
use borrow.Author.Tests.{ltb-true, ltb-false, eqb-true, eqb-false}
use Rattle.text.specs.Bytes.{every}
use Rattle.text.proofs.TestLaws.{true≢false, and_left}
use Rattle.plans.specs.Words.{word, number, part}
use Rattle.integers.specs.Range.{in_range}
use Rattle.plans.specs.Refusals.{passed}
use Rattle.plans.specs.Bits.{with_bit}
use Rattle.plans.specs.Form.{today, earlier, free, parent_good, kind_at, region_at, length_at, body_at, next_at, head_word_for, head_word, steps_word_for, steps_word, width, step_count, word_good_for, check_of}
use Rattle.plans.proofs.KindLaws.{known-number, spans-both, length_range, range_fits, number_fits, choose, earlier-low, body-fits}
use Rattle.plans.proofs.PlanTheorems.{passed→form}
use Rattle.runreport.specs.PlanReading.{fits_word}
use Rattle.runreport.proofs.RunLaws.{head-there, count_most}

-- ---- a header

either : (x y : Bool) {P : Type 0} → (x ≡ true → P) → (y ≡ true → P) → (x || y) ≡ true → P
either true y f g e = f refl
either false y f g e = g e

module _ (p : List ℤ) (k set : ℕ) (few : k ≤ 64) where
  head-fits : (at i : ℕ) → at ≤ i → i < at + 4 → head_word p k set at (i - at) ≡ true → fits_word (word p i) ≡ true
  unfolding head_word_for kind_at region_at length_at free parent_good fits_word
  head-fits at i l h =
      choose (eqb (i - at) 0) _ _
      (λ c e. let q : at ≡ i = omega (arith, eqb-true (i - at) 0 c) in number_fits (word p i) (known-number (number (word p i)) (rw q at e)))
      (λ b. choose (eqb (i - at) 1) _ _
      (λ c e. let q : at + 1 ≡ i = omega (arith, eqb-true (i - at) 1 c) in let f = rw q at e in
      number_fits (word p i) (omega (arith, ltb-true (number (word p i)) k (and_left (ltb (number (word p i)) k) _ f))))
      (λ c. choose (eqb (i - at) 2) _ _
      (λ d e. let q : at + 2 ≡ i = omega (arith, eqb-true (i - at) 2 d) in
      either (in_range (negsuc 0) (negsuc 0) (word p i)) (earlier k set (number (word p i)))
      (range_fits (negsuc 0) (negsuc 0) (word p i) (omega arith) (omega arith))
      (λ f. number_fits (word p i) (omega (arith, earlier-low k set (number (word p i)) few f)))
      (rw q at e))
      (λ d e. let q : at + 3 ≡ i = omega (arith, eqb-false (i - at) 0 b, eqb-false (i - at) 1 c, eqb-false (i - at) 2 d) in
      number_fits (word p i) (length_range (kind_at p at) (number (word p i)) (rw q at e)).1)))

-- ---- a body

-- a word of a step's body is a word of the plan
body-word : (p : List ℤ) (at i : ℕ) → at + 4 ≤ i → i < next_at p at → word (body_at p at) (i - (at + 4)) ≡ word p i
unfolding body_at part word next_at
body-word p at i l h =
    let q : at + 4 + (i - (at + 4)) ≡ i = omega arith in
    let k : i - (at + 4) < length_at p at = omega arith in
    rw (get_or-take, get_or-drop, q)

-- ---- the whole plan

steps-fit : (p : List ℤ) (n k : ℕ) → n ≤ 8 → k ≤ 64 → (left set at i : ℕ) → at ≤ i → steps_word left p n k set at i ≡ true → fits_word (word p i) ≡ true
unfolding steps_word_for fits_word
steps-fit p n k narrow few zero set at i l e = absurd (true≢false (sym e))
steps-fit p n k narrow few (suc left) set at i l e =
    choose (ltb i (at + 4)) _ _
    (λ c. head-fits p k set few at i l (ltb-true i (at + 4) c))
    (λ b. choose (ltb i (next_at p at)) _ _
    (λ c f. rw (body-word p at i (ltb-false i (at + 4) b) (ltb-true i (next_at p at) c)) at
    (body-fits n k set narrow few (body_at p at) (kind_at p at) (i - (at + 4)) f))
    (λ c. steps-fit p n k narrow few left (with_bit set (region_at p at)) (next_at p at) i (ltb-false i (next_at p at) c)))
    e

module _ (p : List ℤ) (ok : check_of p ≡ passed) where
  width-most : width p ≤ 8
  unfolding word_good_for
  width-most = (spans-both 1 8 (width p) ((passed→form today p ok).1.words 0 (omega (arith, head-there p ok)))).1

  word_fits : (i : ℕ) → i < length p → fits_word (word p i) ≡ true
  unfolding word_good_for width step_count fits_word
  word_fits i h =
      choose (eqb i 0) _ _
      (λ c e. let q : i ≡ 0 = eqb-true i 0 c in rw q (number_fits (word p 0) (omega (arith, (spans-both 1 8 (number (word p 0)) e).1))))
      (λ b. choose (eqb i 1) _ _
      (λ c e. let q : i ≡ 1 = eqb-true i 1 c in rw q (number_fits (word p 1) (omega (arith, (spans-both 0 64 (number (word p 1)) e).1))))
      (λ c. steps-fit p (width p) (step_count p) width-most (count_most p ok) (step_count p) 0 2 i (omega (arith, eqb-false i 0 b, eqb-false i 1 c))))
      ((passed→form today p ok).1.words i h)

  -- every word of a plan that passes fits 32 bits
  pub words-fit : every fits_word p ≡ true
  unfolding word
  words-fit = go p word_fits
    where
      go : (q : List ℤ) → ((i : ℕ) → i < length q → fits_word (word q i) ≡ true) → every fits_word q ≡ true
      go [] f = refl
      go (w ∷ q) f = rw (f 0 (omega arith)) (go q (λ i h. f (suc i) (omega arith)))
