-- Laws that go by the kind of a step: a new kind has a row in each of them, and in no other law of a plan.
use mathlib.Core.Path.{◌≡◌, refl, sym}
use mathlib.Core.Bool.{Bool, true, false, cond}
use mathlib.Core.List.{List}
use Prim.Native.Nat.{ℕ, ◌*◌, ◌/◌, ◌%◌, ◌<◌, ◌≤◌}
use native.Mathlib.Omega.{arith}
use lib.Dec.{eqb, ltb, leb}
use lib.IntN.{ℤ, pos, negsuc, neg_ℤ, nat_abs}
use lib.Signed.{le_z}
use borrow.Author.Tests.{le-leb, leb-true, ltb-true, eqb-true}
use Rattle.integers.specs.Range.{in_range}
use Rattle.plans.specs.Words.{word, number, on_scale}
use Rattle.plans.specs.Form.{earlier, dimension_good, box_word, polygon_word, entry, matrix_word, ellipse_word, matrix3_word, ellipsoid_word, operand_word, body_word}
use Rattle.plans.specs.Kinds.{kind_of, kind_number, known, spans, spans_by, length_good}
use Rattle.plans.specs.Inner.Reader.{body_run, ellipsoid_run}
use Rattle.plans.specs.declared.Kind.{Kind}
use Rattle.plans.specs.declared.Kind.TheVariants.{Box, Polygon, Ellipse, And, Or, Not, DecimalEllipse, Ellipsoid, Unknown}
use Rattle.plans.proofs.IndexLaws.{clash, and_both}

-- ---- a kind's number

-- a kind is that of its number
pub kind-back : (kind : Kind) → kind_of (kind_number kind) ≡ kind
unfolding kind_of
kind-back Box = refl
kind-back Polygon = refl
kind-back Ellipse = refl
kind-back And = refl
kind-back Or = refl
kind-back Not = refl
kind-back DecimalEllipse = refl
kind-back Ellipsoid = refl
kind-back Unknown = refl

-- the number that is asked for, or one of those behind it
or_later : (k n : ℕ) (kind rest : Kind) → n ≤ 4096 → (known rest ≡ true → k ≤ 4096) → known (cond (eqb k n) kind rest) ≡ true → k ≤ 4096
or_later k n kind rest few later = go (eqb k n) refl
  where
    go : (b : Bool) → eqb k n ≡ b → known (cond b kind rest) ≡ true → k ≤ 4096
    go true e w = omega (arith, eqb-true k n e)
    go false e w = later w

-- the number of a kind that is known is small
pub known-number : (k : ℕ) → known (kind_of k) ≡ true → k ≤ 4096
unfolding kind_of
known-number k =
    or_later k 1 Box _ (omega arith)
    (or_later k 2 Polygon _ (omega arith)
    (or_later k 3 Ellipse _ (omega arith)
    (or_later k 4 And _ (omega arith)
    (or_later k 5 Or _ (omega arith)
    (or_later k 6 Not _ (omega arith)
    (or_later k 7 DecimalEllipse _ (omega arith)
    (or_later k 8 Ellipsoid _ (omega arith)
    (λ w. absurd (clash (sym w))))))))))

-- ---- the length of a body

pub spans-both : (lo hi m : ℕ) → spans lo hi m ≡ true → (lo ≤ m) × (m ≤ hi)
unfolding spans
spans-both lo hi m e = let s = and_both (leb lo m) (leb m hi) e in (leb-true lo m s.0, leb-true m hi s.1)

pub by_both : (s lo hi m : ℕ) → spans_by s lo hi m ≡ true → (lo ≤ m) × (m ≤ hi) × (m % s ≡ 0)
unfolding spans_by
by_both s lo hi m e =
    let a = and_both (spans lo hi m) (eqb (m % s) 0) e in
    let b = spans-both lo hi m a.0 in
    (b.0, b.1, eqb-true (m % s) 0 a.1)

-- no body is empty or longer than a plan
pub length_range : (kind : Kind) (m : ℕ) → length_good kind m ≡ true → (1 ≤ m) × (m ≤ 4096)
length_range Box m e = let h = by_both 3 3 24 m e in (omega arith, omega arith)
length_range Polygon m e = let h = by_both 2 8 514 m e in (omega arith, omega arith)
length_range Ellipse m e = let h = eqb-true m 8 e in (omega arith, omega arith)
length_range And m e = let h = spans-both 2 63 m e in (omega arith, omega arith)
length_range Or m e = let h = spans-both 2 63 m e in (omega arith, omega arith)
length_range Not m e = let h = eqb-true m 1 e in (omega arith, omega arith)
length_range DecimalEllipse m e = let h = eqb-true m 8 e in (omega arith, omega arith)
length_range Ellipsoid m e = let h = eqb-true m 13 e in (omega arith, omega arith)
length_range Unknown m e = absurd (clash (sym e))

-- a kind that allows some length is known
pub length-known : (kind : Kind) (m : ℕ) → length_good kind m ≡ true → known kind ≡ true
length-known Box m e = refl
length-known Polygon m e = refl
length-known Ellipse m e = refl
length-known And m e = refl
length-known Or m e = refl
length-known Not m e = refl
length-known DecimalEllipse m e = refl
length-known Ellipsoid m e = refl
length-known Unknown m e = e

-- ---- the words of a body

-- −2^31 to 2^31 − 1
abbrev pub Fits : ℤ → Type 0
Fits w = in_range (negsuc 2147483647) (pos 2147483647) w ≡ true

pub range_fits : (lo hi w : ℤ) → nat_abs lo ≤ 2147483647 → nat_abs hi ≤ 2147483647 → in_range lo hi w ≡ true → Fits w
unfolding in_range
range_fits lo (pos b) (pos n) g h e = le-leb n 2147483647 (omega (arith, leb-true n b (and_both (le_z lo (pos n)) (leb n b) e).1))
range_fits lo (negsuc b) (pos n) g h e = absurd (clash (sym (and_both (le_z lo (pos n)) false e).1))
range_fits (pos a) hi (negsuc n) g h e = absurd (clash (sym (and_both false (le_z (negsuc n) hi) e).0))
range_fits (negsuc a) hi (negsuc n) g h e = rw (le-leb n 2147483647 (omega (arith, leb-true n a (and_both (leb n a) (le_z (negsuc n) hi) e).0)))

pub number_fits : (w : ℤ) → number w ≤ 4096 → Fits w
unfolding in_range number
number_fits (pos n) h = le-leb n 2147483647 (omega arith)
number_fits (negsuc n) h = absurd (omega arith)

scale_fits : (w : ℤ) → on_scale w ≡ true → Fits w
unfolding on_scale
scale_fits w e = range_fits (negsuc 65535) (pos 65535) w (omega arith) (omega arith) e

entry-fits : (w : ℤ) → entry (pos 16777216) w ≡ true → Fits w
unfolding entry
entry-fits w e = range_fits (negsuc 16777215) (pos 16777216) w (omega arith) (omega arith) e

-- either test of a choice
pub choose : (b x y : Bool) {P : Type 0} → (b ≡ true → x ≡ true → P) → (b ≡ false → y ≡ true → P) → cond b x y ≡ true → P
choose true x y f g e = f refl e
choose false x y f g e = g refl e

pub earlier-low : (k set r : ℕ) → k ≤ 64 → earlier k set r ≡ true → r < 64
unfolding earlier
earlier-low k set r few e = omega (arith, ltb-true r k (and_both (ltb r k) _ e).0)

module _ (n k set : ℕ) (narrow : n ≤ 8) (few : k ≤ 64) (body : List ℤ) where
  dimension-fits : (s t i : ℕ) → s * t ≡ i → dimension_good n body s t ≡ true → Fits (word body i)
  unfolding dimension_good
  dimension-fits s t i q e = number_fits (word body i)
      (omega (arith, ltb-true (number (word body i)) n (rw q at (and_both (ltb (number (word body (s * t))) n) _ e).0)))

  operand_fits : (i : ℕ) → operand_word k set body i ≡ true → Fits (word body i)
  unfolding operand_word
  operand_fits i e = number_fits (word body i) (omega (arith, earlier-low k set (number (word body i) / 2) few e))

  -- whatever the ranges of an ellipse's entries and of its D²
  ellipse-fits : (most far : ℤ) → nat_abs (neg_ℤ most) ≤ 2147483647 → nat_abs most ≤ 2147483647 → nat_abs far ≤ 2147483647
      → (i : ℕ) → ellipse_word most far n body i ≡ true → Fits (word body i)
  unfolding ellipse_word matrix_word entry
  ellipse-fits most far lo hi to i =
      choose (ltb i 2) _ _ (λ _. dimension-fits 1 i i (omega arith))
      (λ _. choose (ltb i 4) _ _ (λ _. scale_fits (word body i))
      (λ _. choose (eqb i 4) _ _
      (λ c e. let q : i ≡ 4 = eqb-true i 4 c in rw q (range_fits (neg_ℤ most) most (word body 4) lo hi (and_both (entry most (word body 4)) _ e).0))
      (λ _. choose (ltb i 7) _ _ (λ _. range_fits (neg_ℤ most) most (word body i) lo hi)
      (λ _. range_fits (pos 1) far (word body i) (omega arith) to))))

  ellipsoid-fits : (i : ℕ) → ellipsoid_word n body i ≡ true → Fits (word body i)
  unfolding ellipsoid_word matrix3_word entry
  ellipsoid-fits i =
      choose (ltb i 3) _ _ (λ _. dimension-fits 1 i i (omega arith))
      (λ _. choose (ltb i 6) _ _ (λ _. scale_fits (word body i))
      (λ _. choose (eqb i 6) _ _
      (λ c e. let q : i ≡ 6 = eqb-true i 6 c in rw q (entry-fits (word body 6) (and_both (entry (pos 16777216) (word body 6)) _ e).0))
      (λ _. choose (ltb i 12) _ _ (λ _. entry-fits (word body i))
      (λ _. range_fits (pos 1) (pos 4096) (word body i) (omega arith) (omega arith)))))

  -- a good word fits 32 bits
  pub body-fits : (kind : Kind) (i : ℕ) → body_word kind n k set body i ≡ true → Fits (word body i)
  unfolding box_word polygon_word
  body-fits Box i =
      choose (eqb (i % 3) 0) _ _
      (λ c. dimension-fits 3 (i / 3) i (omega (arith, eqb-true (i % 3) 0 c)))
      (λ _. choose (eqb (i % 3) 1) _ _
      (λ _. scale_fits (word body i))
      (λ _ e. range_fits (negsuc 65534) (pos 65536) (word body i) (omega arith) (omega arith)
      (and_both (in_range (negsuc 65534) (pos 65536) (word body i)) _ e).0))
  body-fits Polygon i = choose (ltb i 2) _ _ (λ _. dimension-fits 1 i i (omega arith)) (λ _. scale_fits (word body i))
  body-fits Ellipse i = ellipse-fits (pos 16777216) (pos 4096) (omega arith) (omega arith) (omega arith) i
  body-fits And i = operand_fits i
  body-fits Or i = operand_fits i
  body-fits Not i = operand_fits i
  body-fits DecimalEllipse i = ellipse-fits (pos 2000000000) (pos 4096000) (omega arith) (omega arith) (omega arith) i
  body-fits Ellipsoid i = ellipsoid-fits i
  body-fits Unknown i = λ e. absurd (clash (sym e))

-- ---- ellipsoids

pub ellipsoid-run-is : (n k set : ℕ) (body : List ℤ) (kind : Kind) → eqb (kind_number kind) 8 ≡ true → ellipsoid_run n body ≡ body_run kind n k set body
unfolding ellipsoid_run body_run
ellipsoid-run-is n k set body Box e = absurd (clash (sym e))
ellipsoid-run-is n k set body Polygon e = absurd (clash (sym e))
ellipsoid-run-is n k set body Ellipse e = absurd (clash (sym e))
ellipsoid-run-is n k set body And e = absurd (clash (sym e))
ellipsoid-run-is n k set body Or e = absurd (clash (sym e))
ellipsoid-run-is n k set body Not e = absurd (clash (sym e))
ellipsoid-run-is n k set body DecimalEllipse e = absurd (clash (sym e))
ellipsoid-run-is n k set body Ellipsoid e = refl
ellipsoid-run-is n k set body Unknown e = absurd (clash (sym e))
