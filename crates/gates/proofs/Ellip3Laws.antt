-- Ellipsoids of accepted lines: their words have the form, and hold whom the line holds, on their outlines too.
use mathlib.Core.Path.{◌≡◌, ap, ◌∙◌}
use mathlib.Core.Bool.{true, false}
use mathlib.Core.Logic.{◌⊎◌, inl, inr}
use mathlib.Core.List.{List}
use Prim.Native.Nat.{ℕ, ◌+◌, ◌-◌, ◌<◌, ◌≤◌}
use native.Mathlib.Omega.{arith}
use borrow.Author.Tests.{ltb-true, ltb-false, eqb-true, lt-ltb, le-ltb}
use lib.Dec.{eqb, ltb}
use lib.IntN.{ℤ, pos}
use lib.ListN.{length}
use Rattle.integers.specs.Range.{in_range}
use Rattle.text.specs.Bounded.{tab}
use Rattle.text.proofs.TestLaws.{passed_or_failed}
use Rattle.text.proofs.BoundedLaws.{length-tab}
use Rattle.plans.specs.Indices.{all}
use Rattle.plans.specs.Words.{word, on_scale}
use Rattle.plans.specs.Symmetric.{Symmetric, symmetric_from}
use Rattle.plans.specs.Form.{entry, matrix3_word, ellipsoid_word}
use Rattle.counter.specs.Ellipsoid.{in_ellipsoid, ellipsoid_position}
use Rattle.counter.specs.Positions.{is_on_outline}
use Rattle.counter.specs.Members.{value_in, ellipsoid_in}
use Rattle.counter.specs.Outlines.{ellipsoid_on}
use Rattle.gates.specs.declared.LineKind.TheVariants.{Ellip3}
use Rattle.gates.specs.declared.Rule.TheVariants.{Dimension}
use Rattle.gates.specs.Kinds.{field_at, value_of}
use Rattle.gates.specs.Rules.{ellip3_rule}
use Rattle.gates.specs.Gate.{Event, ellip3}
use Rattle.gates.specs.Meaning.{value_under, in_ellip3}
use Rattle.gates.specs.Outlines.{on_ellip3}
use Rattle.gates.specs.Encoding.{space_word}
use Rattle.gates.proofs.GoodGate.{GoodLeaf}
use Rattle.gates.proofs.AcceptedLaws.{Accepted, rule_body, coordinate_passes, entry-passes, distance-passes}
use Rattle.gates.proofs.BoxLaws.{word-tab}
use Rattle.gates.proofs.LeafLaws.{axis_good, axis_value, axes_numbered, axes_value}

module _ (head fs : List (List ℕ)) (a : Accepted head Ellip3 fs) where
  abbrev words : ℕ → ℤ
  words = space_word head fs

  abbrev body : List ℤ
  body = tab words (length fs - 3)

  thirteen : length fs - 3 ≡ 13
  thirteen = eqb-true (length fs - 3) 13 a.shape

  three : 3 ≤ length fs - 3
  three = omega (arith, thirteen)

  dimension-first : (i : ℕ) → i < 3 → ellip3_rule i ≡ Dimension
  unfolding ellip3_rule
  dimension-first i h = rw (lt-ltb i 3 h)

  number_is : (i : ℕ) → 3 ≤ i → i < 13 → word body i ≡ value_of (field_at fs (3 + i))
  number_is i p h = word-tab words (length fs - 3) i (omega (arith, thirteen)) ∙ axes_value 3 head fs i p

  mean_good : (i : ℕ) → 3 ≤ i → i < 6 → on_scale (word body i) ≡ true
  unfolding on_scale in_range ellip3_rule
  mean_good i p h =
      rw (number_is i p (omega arith))
      (coordinate_passes head Ellip3 fs a (3 + i) (omega (arith, thirteen)) (rule_body Ellip3 fs i ∙ rw (le-ltb i 3 p, lt-ltb i 6 h)))

  entry-good : (i : ℕ) → 6 ≤ i → i < 12 → entry (pos 16777216) (word body i) ≡ true
  unfolding entry ellip3_rule
  entry-good i p h =
      let q : 3 ≤ i = omega arith in
      rw (number_is i q (omega arith))
      (entry-passes head Ellip3 fs a (3 + i) (omega (arith, thirteen)) (rule_body Ellip3 fs i ∙ rw (le-ltb i 3 q, le-ltb i 6 p, lt-ltb i 12 h)))

  distance-good : (i : ℕ) → 12 ≤ i → i < 13 → in_range (pos 1) (pos 4096) (word body i) ≡ true
  unfolding ellip3_rule
  distance-good i p h =
      let q : 3 ≤ i = omega arith in
      let r : 6 ≤ i = omega arith in
      rw (number_is i q h)
      (distance-passes head Ellip3 fs a (3 + i) (omega (arith, thirteen)) (rule_body Ellip3 fs i ∙ rw (le-ltb i 3 q, le-ltb i 6 r, le-ltb i 12 p)))

  -- the matrix of the words is that of the fields
  matrix-is : symmetric_from (word body) 6 ≡ symmetric_from (λ k. value_of (field_at fs k)) 9
  matrix-is =
      rw (
        number_is 6 (omega arith) (omega arith),
        number_is 7 (omega arith) (omega arith),
        number_is 8 (omega arith) (omega arith),
        number_is 9 (omega arith) (omega arith),
        number_is 10 (omega arith) (omega arith),
        number_is 11 (omega arith) (omega arith),
      )

  matrix-good : matrix3_word body ≡ true
  unfolding matrix3_word all
  matrix-good =
      rw (
        entry-good 6 (omega arith) (omega arith),
        entry-good 7 (omega arith) (omega arith),
        entry-good 8 (omega arith) (omega arith),
        entry-good 9 (omega arith) (omega arith),
        entry-good 10 (omega arith) (omega arith),
        entry-good 11 (omega arith) (omega arith),
        matrix-is,
      )
      a.matrix

  words_good : (i : ℕ) → i < length body → ellipsoid_word (length head) body i ≡ true
  unfolding ellipsoid_word
  words_good i h =
      go (passed_or_failed (ltb i 3)) (passed_or_failed (ltb i 6)) (passed_or_failed (eqb i 6)) (passed_or_failed (ltb i 12))
      (let p : i < 13 = omega (arith, thirteen, length-tab words (length fs - 3)) in p)
    where
      go : (ltb i 3 ≡ true) ⊎ (ltb i 3 ≡ false) → (ltb i 6 ≡ true) ⊎ (ltb i 6 ≡ false) → (eqb i 6 ≡ true) ⊎ (eqb i 6 ≡ false)
          → (ltb i 12 ≡ true) ⊎ (ltb i 12 ≡ false) → i < 13
          → ellipsoid_word (length head) body i ≡ true
      go (inl p) q r s h = rw p (axis_good head Ellip3 fs a 3 three dimension-first words (axes_numbered 3 head fs) i (ltb-true i 3 p))
      go (inr p) (inl q) r s h = rw (p, q) (mean_good i (ltb-false i 3 p) (ltb-true i 6 q))
      go (inr p) (inr q) (inl r) s h = rw (p, q, r) matrix-good
      go (inr p) (inr q) (inr r) (inl s) h = rw (p, q, r, s) (entry-good i (ltb-false i 6 q) (ltb-true i 12 s))
      go (inr p) (inr q) (inr r) (inr s) h = rw (p, q, r, s) (distance-good i (ltb-false i 12 s) h)

  -- the words have the line's numbers and the event's values, whatever is asked of them
  alike : {A : Type 0} (ask : ℤ → ℤ → ℤ → Symmetric → ℤ → ℤ → ℤ → ℤ → A) (e : Event)
      → (let number : ℕ → ℤ = λ k. value_of (field_at fs k) in
      let value : ℕ → ℤ = λ k. value_under head e (field_at fs k) in
      ask (word body 3) (word body 4) (word body 5) (symmetric_from (word body) 6) (word body 12) (value_in e body 0) (value_in e body 1) (value_in e body 2)
      ≡ ask (number 6) (number 7) (number 8) (symmetric_from number 9) (number 15) (value 3) (value 4) (value 5))
  alike ask e =
      let at = axis_value head Ellip3 fs a 3 three dimension-first words (axes_numbered 3 head fs) e in
      rw (
        matrix-is,
        number_is 3 (omega arith) (omega arith),
        number_is 4 (omega arith) (omega arith),
        number_is 5 (omega arith) (omega arith),
        number_is 12 (omega arith) (omega arith),
        at 0 (omega arith),
        at 1 (omega arith),
        at 2 (omega arith),
      )

  pub ellip3_good : GoodLeaf (length head) (ellip3 head fs)
  unfolding in_ellip3 on_ellip3 ellipsoid_in ellipsoid_on
  ellip3_good =
      record {
        length_good_lem = rw (length-tab words (length fs - 3), thirteen);
        words_good = λ k set i h. words_good i h;
        faithful = λ e l t bits. alike in_ellipsoid e;
        outline_faithful = λ e. ap is_on_outline (alike ellipsoid_position e);
      }
