-- Theorems about specs/Decimals: without a point nothing changes, what the point means, no minus zero; and worked examples.
use mathlib.Core.Path.{◌≡◌, refl, sym, ◌∙◌, ap}
use mathlib.Core.Bool.{Bool, true, false, not, cond, ◌&&◌, ◌||◌}
use mathlib.Core.Logic.{◌⊎◌, inl, inr}
use mathlib.Core.List.{List, [], ◌∷◌, ◌++◌, map}
use Prim.Native.Nat.{ℕ, zero, suc, ◌+◌, ◌-◌, ◌*◌, ◌^◌, ◌≤◌, ◌<◌}
use native.Mathlib.Omega.{arith}
use lib.Dec.{eqb, ltb, leb}
use lib.IntN.{pos, negsuc, ◌*ℤ◌, pos-*ℤ-pos, pos-*ℤ-negsuc}
use lib.ListN.{length, get_or, take, drop, replicate, take-append-drop, length-append}
use lib.Seq.{take_all, take-append_seam, drop-append-add}
use lib.Signed.{le_z}
use borrow.Author.Tests.{ltb-true, ltb-false, leb-true, eqb-true, eqb-false, lt-ltb, le-ltb, ne_eqb, not-true}
use Rattle.text.specs.Bytes.{bytes, same, every}
use Rattle.text.specs.Numbers.{is_digit, is_negative, unsigned, is_positive, is_number, digits_value, signed, number_value, clamp_to}
use Rattle.decimals.specs.Decimals.{point_at, has_point, before_point, after_point, unsigned_thousandths, thousandths}
use Rattle.decimals.specs.Decimals.{is_whole, is_one_to_three, is_minus_zero, is_decimal}
use Rattle.decimals.specs.Inner.Kept.{read_decimal}
use Rattle.std.specs.Prelude.{Some, None}
use Rattle.text.proofs.TestLaws.{true≢false, and_left, and_right, and_false, or_true, passed_or_failed, leb_iff}
use Rattle.text.proofs.BytesLaws.{rest_cons, before-found, same_eq}
use Rattle.decimals.proofs.DecimalLaws.{after_none}

-- ── The parts at the point ──

module _ (s : List ℕ) (h : has_point s ≡ false) where
  none_end : length s ≤ point_at s
  unfolding has_point
  none_end = ltb-false (point_at s) (length s) h

  -- without a point s is all before it
  pub none_before : before_point s ≡ s
  unfolding before_point
  none_before = take_all (point_at s) s none_end

  pub none_after : after_point s ≡ []
  none_after = after_none s none_end

point_at_lem : (s d : List ℕ) → length s ≤ point_at s → point_at (s ++ (46 ∷ d)) ≡ length s
point_at_lem [] d h = refl
point_at_lem (x ∷ s) d h = go (passed_or_failed (eqb x 46)) (point_at_lem s d)
  where
    go : (eqb x 46 ≡ true) ⊎ (eqb x 46 ≡ false) → (length s ≤ point_at s → point_at (s ++ (46 ∷ d)) ≡ length s)
        → point_at ((x ∷ s) ++ (46 ∷ d)) ≡ length (x ∷ s)
    go (inl t) r = absurd (let l : length (x ∷ s) ≤ 0 = rw t at h in omega arith)
    go (inr t) r = let l : length (x ∷ s) ≤ suc (point_at s) = rw t at h in rw t (ap suc (r (omega arith)))

-- a text without a point, a point, another: these are the parts
module _ (s d : List ℕ) (h : has_point s ≡ false) where
  pub point_has : has_point (s ++ (46 ∷ d)) ≡ true
  unfolding has_point
  point_has = rw (point_at_lem s d (none_end s h)) (lt-ltb (length s) (length (s ++ (46 ∷ d))) (simp length-append (omega arith)))

  pub point_before : before_point (s ++ (46 ∷ d)) ≡ s
  unfolding before_point
  point_before = rw (point_at_lem s d (none_end s h)) (take-append_seam s (46 ∷ d))

  pub point_after : after_point (s ++ (46 ∷ d)) ≡ d
  unfolding after_point
  point_after = rw (point_at_lem s d (none_end s h)) (drop-append-add s (46 ∷ d) 1)

-- and every text that has a point is made of such parts
take_point : (s : List ℕ) → length (take (point_at s) s) ≤ point_at (take (point_at s) s)
take_point [] = omega arith
take_point (x ∷ s) = go (passed_or_failed (eqb x 46)) (take_point s)
  where
    go : (eqb x 46 ≡ true) ⊎ (eqb x 46 ≡ false) → length (take (point_at s) s) ≤ point_at (take (point_at s) s)
        → length (take (point_at (x ∷ s)) (x ∷ s)) ≤ point_at (take (point_at (x ∷ s)) (x ∷ s))
    go (inl t) r = rw t (omega arith)
    go (inr t) r = rw (t, t) (omega arith)

module _ (s : List ℕ) where
  pub before-none : has_point (before_point s) ≡ false
  unfolding has_point before_point
  before-none = le-ltb (point_at (take (point_at s) s)) (length (take (point_at s) s)) (take_point s)

  pub point_parts : has_point s ≡ true → before_point s ++ (46 ∷ after_point s) ≡ s
  unfolding has_point before_point after_point
  point_parts h =
      let l = ltb-true (point_at s) (length s) h in
      let e = eqb-true (get_or s (point_at s) 0) 46 (before-found (λ c. eqb c 46) 0 s l) in
      let r : drop (point_at s) s ≡ 46 ∷ drop (point_at s + 1) s = rest_cons s (point_at s) 0 l ∙ ap (λ (x : ℕ). x ∷ drop (point_at s + 1) s) e in
      ap (λ (k : List ℕ). take (point_at s) s ++ k) (sym r) ∙ take-append-drop (point_at s) s

-- ── The sign ──

module _ (s t : List ℕ) (h : is_negative t ≡ false) where
  sign-first : is_negative (s ++ t) ≡ is_negative s
  unfolding is_negative
  sign-first = go s
    where
      go : (s : List ℕ) → is_negative (s ++ t) ≡ is_negative s
      go [] = h
      go (x ∷ s) = refl

  unsigned-first : unsigned (s ++ t) ≡ unsigned s ++ t
  unfolding unsigned is_negative
  unsigned-first = go s
    where
      both : (b : Bool) (x : ℕ) (s : List ℕ) → cond b (s ++ t) (x ∷ (s ++ t)) ≡ cond b s (x ∷ s) ++ t
      both true x s = refl
      both false x s = refl

      go : (s : List ℕ) → unsigned (s ++ t) ≡ unsigned s ++ t
      go [] = rw h
      go (x ∷ s) = both (eqb x 45) x s

signed-times : (b : Bool) (k n : ℕ) → signed b (k * n) ≡ pos k *ℤ signed b n
signed-times false k n = sym (pos-*ℤ-pos k n)
signed-times true k zero = let e : k * 0 ≡ 0 = omega arith in rw e
signed-times true k (suc n) = sym (pos-*ℤ-negsuc k n)

unsigned-none : (s : List ℕ) → has_point s ≡ false → has_point (unsigned s) ≡ false
unfolding unsigned is_negative has_point
unsigned-none [] h = refl
unsigned-none (x ∷ s) h = go (passed_or_failed (eqb x 45))
  where
    go : (eqb x 45 ≡ true) ⊎ (eqb x 45 ≡ false) → has_point (unsigned (x ∷ s)) ≡ false
    go (inl t) =
        let n = ne_eqb x 46 (λ e. omega (arith, eqb-true x 45 t)) in
        let l : length (x ∷ s) ≤ suc (point_at s) = rw n at (none_end (x ∷ s) h) in
        rw t (le-ltb (point_at s) (length s) (omega arith))
    go (inr t) = rw t h

-- ── Without a point ──

module _ (s : List ℕ) (h : has_point s ≡ false) where
  -- the form is 01's
  pub none-decimal : is_decimal s ≡ is_number s
  unfolding is_decimal
  none-decimal = rw h

  none-value : unsigned_thousandths (unsigned s) ≡ 1000 * digits_value 0 (unsigned s)
  unfolding unsigned_thousandths
  none-value =
      let u = unsigned-none s h in
      rw (none_before (unsigned s) u, none_after (unsigned s) u) (omega arith)

  -- and the value 1000 times 01's
  pub none-thousandths : thousandths s ≡ pos 1000 *ℤ number_value s
  unfolding thousandths number_value
  none-thousandths = rw none-value (signed-times (is_negative s) 1000 (digits_value 0 (unsigned s)))

-- ── With a point ──

digits_append : (v : ℕ) (a b : List ℕ) → digits_value v (a ++ b) ≡ digits_value (digits_value v a) b
digits_append v [] b = refl
digits_append v (x ∷ a) b = digits_append (v * 10 + (x - 48)) a b

struck : (v : ℕ) (d : List ℕ) → length d ≤ 3 → 1000 * v + digits_value 0 (take 3 (d ++ bytes "000")) ≡ 10 ^ (3 - length d) * digits_value v d
struck v [] h = omega arith
struck v (x ∷ []) h = omega arith
struck v (x ∷ (y ∷ [])) h = omega arith
struck v (x ∷ (y ∷ (z ∷ []))) h = omega arith
struck v (x ∷ (y ∷ (z ∷ (w ∷ d)))) h = absurd (omega arith)

module _ (d : List ℕ) (e : is_one_to_three d ≡ true) where
  few-digits : (leb (length d) 3 && every is_digit d) ≡ true
  unfolding is_one_to_three
  few-digits = and_right (leb 1 (length d)) (leb (length d) 3 && every is_digit d) e

  at-most-three : length d ≤ 3
  at-most-three = leb-true (length d) 3 (and_left (leb (length d) 3) (every is_digit d) few-digits)

  all_digits : every is_digit d ≡ true
  all_digits = and_right (leb (length d) 3) (every is_digit d) few-digits

digits-unsigned : (d : List ℕ) → every is_digit d ≡ true → is_negative d ≡ false
unfolding is_negative
digits-unsigned [] h = refl
digits-unsigned (x ∷ d) h =
    let l = leb-true 48 x (and_left (leb 48 x) (leb x 57) (and_left (is_digit x) (every is_digit d) h)) in
    ne_eqb x 45 (λ e. omega arith)

point_unsigned : (d : List ℕ) → is_negative (46 ∷ d) ≡ false
unfolding is_negative
point_unsigned d = refl

-- the value of s, which has no point, with a point and d behind it
module _ (s d : List ℕ) (h : has_point s ≡ false) where
  point_sign : is_negative (s ++ (46 ∷ d)) ≡ is_negative s
  point_sign = sign-first s (46 ∷ d) (point_unsigned d)

  point_value : unsigned_thousandths (unsigned (s ++ (46 ∷ d))) ≡ 1000 * digits_value 0 (unsigned s) + digits_value 0 (take 3 (d ++ bytes "000"))
  unfolding unsigned_thousandths
  point_value =
      let u = unsigned-none s h in
      rw (unsigned-first s (46 ∷ d) (point_unsigned d), point_before (unsigned s) d u, point_after (unsigned s) d u)

  -- the thousandths are the value of the number with its point struck out, times ten for each decimal that is left out of three
  pub point_struck : is_one_to_three d ≡ true → thousandths (s ++ (46 ∷ d)) ≡ pos (10 ^ (3 - length d)) *ℤ number_value (s ++ d)
  unfolding thousandths number_value
  point_struck e =
      let n = digits-unsigned d (all_digits d e) in
      rw (point_sign, point_value, sign-first s d n, unsigned-first s d n, digits_append, struck (digits_value 0 (unsigned s)) d (at-most-three d e))
      (signed-times (is_negative s) (10 ^ (3 - length d)) (digits_value (digits_value 0 (unsigned s)) d))

-- ── No minus zero ──

grows : (v : ℕ) (s : List ℕ) → v ≤ digits_value v s
grows v [] = omega arith
grows v (x ∷ s) = omega (arith, grows (v * 10 + (x - 48)) s)

positive-some : (u : List ℕ) → is_positive u ≡ true → 0 < digits_value 0 u
unfolding is_positive
positive-some [] e = absurd (true≢false (sym e))
positive-some (x ∷ u) e = omega (arith, ltb-true 48 x (and_left (ltb 48 x) (every is_digit (x ∷ u)) e), grows (0 * 10 + (x - 48)) u)

-- `0` has no `-`
negative-number : (s : List ℕ) → is_negative s ≡ true → is_number s ≡ is_positive (unsigned s)
unfolding is_number is_negative same
negative-number [] e = refl
negative-number (x ∷ s) e = rw (ne_eqb x 48 (λ q. omega (arith, eqb-true x 45 e)))

-- a number with a `-` is below zero
pub negative-below : (s : List ℕ) → is_decimal s ≡ true → is_negative s ≡ true → le_z (pos 0) (thousandths s) ≡ false
unfolding thousandths is_decimal is_minus_zero
negative-below s d n = rw n (below (unsigned_thousandths (unsigned s)) (go (passed_or_failed (has_point s))))
  where
    below : (m : ℕ) → 0 < m → le_z (pos 0) (signed true m) ≡ false
    below zero h = absurd (omega arith)
    below (suc m) h = refl

    some : (m : ℕ) → eqb m 0 ≡ false → 0 < m
    some m e = let h = eqb-false m 0 e in omega arith

    go : (has_point s ≡ true) ⊎ (has_point s ≡ false) → 0 < unsigned_thousandths (unsigned s)
    go (inl t) =
        let whole = is_whole (before_point (unsigned s)) in
        let decimals = is_one_to_three (after_point (unsigned s)) in
        let e : (whole && (decimals && not (is_minus_zero s))) ≡ true = rw t at d in
        let z = not-true (is_minus_zero s) (and_right decimals (not (is_minus_zero s)) (and_right whole (decimals && not (is_minus_zero s)) e)) in
        some (unsigned_thousandths (unsigned s)) (rw n at z)
    go (inr t) =
        let e : is_number s ≡ true = rw t at d in
        omega (arith, none-value s t, positive-some (unsigned s) (sym (negative-number s n) ∙ e))

-- ── 01's numbers have no point ──

digits_plain : (s : List ℕ) → every is_digit s ≡ true → length s ≤ point_at s
digits_plain [] h = omega arith
digits_plain (x ∷ s) h =
    let l = leb-true 48 x (and_left (leb 48 x) (leb x 57) (and_left (is_digit x) (every is_digit s) h)) in
    rw (ne_eqb x 46 (λ e. omega arith)) (omega (arith, digits_plain s (and_right (is_digit x) (every is_digit s) h)))

signed_plain : (s : List ℕ) → every is_digit (unsigned s) ≡ true → length s ≤ point_at s
unfolding unsigned is_negative
signed_plain [] h = omega arith
signed_plain (x ∷ s) h = go (passed_or_failed (eqb x 45))
  where
    go : (eqb x 45 ≡ true) ⊎ (eqb x 45 ≡ false) → length (x ∷ s) ≤ point_at (x ∷ s)
    go (inl t) =
        let d : every is_digit s ≡ true = rw t at h in
        rw (ne_eqb x 46 (λ e. omega (arith, eqb-true x 45 t))) (omega (arith, digits_plain s d))
    go (inr t) = digits_plain (x ∷ s) (rw t at h)

pub number_plain : (s : List ℕ) → is_number s ≡ true → has_point s ≡ false
unfolding is_number is_positive has_point
number_plain s n = go (passed_or_failed (same s (bytes "0")))
  where
    go : (same s (bytes "0") ≡ true) ⊎ (same s (bytes "0") ≡ false) → has_point s ≡ false
    go (inl z) = rw (same_eq s (bytes "0") z) refl
    go (inr z) =
        let u = unsigned s in
        let p : (ltb 48 (get_or u 0 0) && every is_digit u) ≡ true = rw z at n in
        le-ltb (point_at s) (length s) (signed_plain s (and_right (ltb 48 (get_or u 0 0)) (every is_digit u) p))

-- ── Which numbers may have decimals ──

module _ (s : List ℕ) (e : is_negative s ≡ false) where
  as_is : unsigned s ≡ s
  unfolding unsigned
  as_is = rw e

  plain_number : is_number s ≡ is_whole s
  unfolding is_number is_whole
  plain_number = rw as_is

plain_zero : (s : List ℕ) → is_negative s ≡ false → same s (bytes "-0") ≡ false
unfolding is_negative same
plain_zero [] e = refl
plain_zero (x ∷ s) e = rw e

minus-zero : (s : List ℕ) → is_negative s ≡ true → same s (bytes "-0") ≡ same (unsigned s) (bytes "0")
unfolding is_negative unsigned same
minus-zero [] e = refl
minus-zero (x ∷ s) e = rw e

-- a whole number of which decimals of value w make no minus zero: 01's number, or `-0` where w is not zero
whole-number : (s : List ℕ) (w : ℕ)
    → (is_whole (unsigned s) && not (is_negative s && eqb (1000 * digits_value 0 (unsigned s) + w) 0)) ≡ (is_number s || (same s (bytes "-0") && ltb 0 w))
unfolding is_whole same
whole-number s w = go (passed_or_failed (is_negative s)) (passed_or_failed (is_positive (unsigned s))) (passed_or_failed (same (unsigned s) (bytes "0")))
  where
    as_it_is : (b : Bool) → (b && true) ≡ (b || false)
    as_it_is true = refl
    as_it_is false = refl

    some : (w : ℕ) → not (eqb (1000 * digits_value 0 (bytes "0") + w) 0) ≡ ltb 0 w
    some zero = refl
    some (suc w) = rw (ne_eqb (0 + suc w) 0 (λ e. omega arith)) (sym (lt-ltb 0 (suc w) (omega arith)))

    go : (is_negative s ≡ true) ⊎ (is_negative s ≡ false) → (is_positive (unsigned s) ≡ true) ⊎ (is_positive (unsigned s) ≡ false)
        → (same (unsigned s) (bytes "0") ≡ true) ⊎ (same (unsigned s) (bytes "0") ≡ false)
        → (is_whole (unsigned s) && not (is_negative s && eqb (1000 * digits_value 0 (unsigned s) + w) 0)) ≡ (is_number s || (same s (bytes "-0") && ltb 0 w))
    go (inr n) p z = rw (plain_number s n, plain_zero s n, as_is s n, n) (as_it_is (is_whole s))
    go (inl n) (inl p) z =
        let v = ne_eqb (1000 * digits_value 0 (unsigned s) + w) 0 (λ e. omega (arith, positive-some (unsigned s) p)) in
        rw (negative-number s n, n, p, v, or_true)
    go (inl n) (inr p) (inl z) = rw (negative-number s n, minus-zero s n, n, p, same_eq (unsigned s) (bytes "0") z) (some w)
    go (inl n) (inr p) (inr z) = rw (negative-number s n, minus-zero s n, n, p, z)

-- decimals filled up with zeros are zero where they were
filled_zero : (d : List ℕ) → length d ≤ 3 → ltb 0 (digits_value 0 (take 3 (d ++ bytes "000"))) ≡ ltb 0 (digits_value 0 d)
filled_zero [] h = refl
filled_zero (x ∷ []) h = leb_iff 1 (digits_value 0 (take 3 ((x ∷ []) ++ bytes "000"))) 1 (digits_value 0 (x ∷ [])) (omega arith) (omega arith)
filled_zero (x ∷ (y ∷ [])) h =
    leb_iff 1 (digits_value 0 (take 3 ((x ∷ (y ∷ [])) ++ bytes "000"))) 1 (digits_value 0 (x ∷ (y ∷ []))) (omega arith) (omega arith)
filled_zero (x ∷ (y ∷ (z ∷ []))) h = refl
filled_zero (x ∷ (y ∷ (z ∷ (w ∷ d)))) h = absurd (omega arith)

module _ (s d : List ℕ) (h : has_point s ≡ false) where
  point_tests : is_decimal (s ++ (46 ∷ d))
      ≡ (is_whole (unsigned s)
      && (is_one_to_three d && not (is_negative s && eqb (1000 * digits_value 0 (unsigned s) + digits_value 0 (take 3 (d ++ bytes "000"))) 0)))
  unfolding is_decimal is_minus_zero
  point_tests =
      rw (
        point_has s d h,
        point_value s d h,
        point_sign s d h,
        unsigned-first s (46 ∷ d) (point_unsigned d),
        point_before (unsigned s) d (unsigned-none s h),
        point_after (unsigned s) d (unsigned-none s h),
      )

  -- s, a point, and one to three digits d: a number where s is one of 01's; or where s is `-0` and d is not zero
  pub point_decimal : is_one_to_three d ≡ true → is_decimal (s ++ (46 ∷ d)) ≡ (is_number s || (same s (bytes "-0") && ltb 0 (digits_value 0 d)))
  point_decimal e =
      rw (point_tests, e, ← (filled_zero d (at-most-three d e))) (whole-number s (digits_value 0 (take 3 (d ++ bytes "000"))))

  -- with any other d no number
  pub point_bad : is_one_to_three d ≡ false → is_decimal (s ++ (46 ∷ d)) ≡ false
  point_bad e = rw (point_tests, e) (and_false (is_whole (unsigned s)))

-- ── Zeros behind a point ──

-- a point and one to three zeros change neither the form nor the value
module _ (s : List ℕ) (k : ℕ) (h : has_point s ≡ false) (l : 1 ≤ k) (m : k ≤ 3) where
  zeros-form : is_one_to_three (replicate k 48) ≡ true
  unfolding is_one_to_three
  zeros-form = go k l m
    where
      go : (k : ℕ) → 1 ≤ k → k ≤ 3 → is_one_to_three (replicate k 48) ≡ true
      go zero l m = absurd (omega arith)
      go (suc zero) l m = refl
      go (suc (suc zero)) l m = refl
      go (suc (suc (suc zero))) l m = refl
      go (suc (suc (suc (suc k)))) l m = absurd (omega arith)

  zeros-value : unsigned_thousandths (unsigned (s ++ (46 ∷ replicate k 48))) ≡ 1000 * digits_value 0 (unsigned s)
  zeros-value = point_value s (replicate k 48) h ∙ rw (go k m) (omega arith)
    where
      go : (k : ℕ) → k ≤ 3 → digits_value 0 (take 3 (replicate k 48 ++ bytes "000")) ≡ 0
      go zero m = refl
      go (suc zero) m = refl
      go (suc (suc zero)) m = refl
      go (suc (suc (suc zero))) m = refl
      go (suc (suc (suc (suc k)))) m = absurd (omega arith)

  pub zeros-decimal : is_decimal (s ++ (46 ∷ replicate k 48)) ≡ is_number s
  zeros-decimal = point_decimal s (replicate k 48) h zeros-form ∙ rw (nothing k, and_false) (or_false (is_number s))
    where
      nothing : (k : ℕ) → digits_value 0 (replicate k 48) ≡ 0
      nothing zero = refl
      nothing (suc k) = nothing k

      or_false : (b : Bool) → (b || false) ≡ b
      or_false true = refl
      or_false false = refl

  pub zeros-thousandths : thousandths (s ++ (46 ∷ replicate k 48)) ≡ thousandths s
  unfolding thousandths
  zeros-thousandths = rw (zeros-value, point_sign s (replicate k 48) h, none-value s h)

-- s with so many zeros behind a point; with none there is no point
abbrev pub with_zeros : List ℕ → ℕ → List ℕ
with_zeros s zero = s
with_zeros s (suc k) = s ++ (46 ∷ replicate (suc k) 48)

-- a whole number has in thousandths 1000 times its value, with zeros or without
pub zeros-whole : (s : List ℕ) (k : ℕ) → is_number s ≡ true → k ≤ 3 → thousandths (with_zeros s k) ≡ pos 1000 *ℤ number_value s
zeros-whole s zero n m = none-thousandths s (number_plain s n)
zeros-whole s (suc k) n m = let h = number_plain s n in zeros-thousandths s (suc k) h (omega arith) m ∙ none-thousandths s h

-- ── Worked examples ──

-- the form: with decimals, or 01's
pub good-decimals :
    every
    (λ s. is_decimal (bytes s))
    ("-0.5" ∷ "0.0" ∷ "0.000" ∷ "1134.5" ∷ "1.500" ∷ "4.0" ∷ "-0.001" ∷ "-10.25" ∷ "1234567890123456789012345678901234567890.125" ∷ "0" ∷ "-65536" ∷ [])
    ≡ true
unfolding is_decimal has_point before_point after_point unsigned_thousandths is_whole is_one_to_three is_minus_zero
    is_number is_positive is_negative unsigned same
good-decimals = refl

-- minus zero
pub minus-zeros : every (λ s. not (is_decimal (bytes s))) ("-0" ∷ "-0.0" ∷ "-0.00" ∷ "-0.000" ∷ []) ≡ true
unfolding is_decimal has_point before_point after_point unsigned_thousandths is_whole is_one_to_three is_minus_zero
    is_number is_positive is_negative unsigned same
minus-zeros = refl

pub bad-decimals :
    every
    (λ s. not (is_decimal (bytes s)))
    ("" ∷ "." ∷ "-" ∷ "-." ∷ ".5" ∷ "-.5" ∷ "5." ∷ "1.2345" ∷ "00.5" ∷ "-00.5" ∷ "+0.5" ∷ "1e3" ∷ "1.5e1" ∷ "1.5.2" ∷ "1.-5" ∷ "--1.5" ∷ "1,5" ∷ "1. 5"
    ∷ "0123456789012345678901234567890123456789.5" ∷ "1234567890123456789012345678901234567890.1234" ∷ [])
    ≡ true
unfolding is_decimal has_point before_point after_point unsigned_thousandths is_whole is_one_to_three is_minus_zero
    is_number is_positive is_negative unsigned same
bad-decimals = refl

-- their values in thousandths
pub decimal-values :
    map (λ s. thousandths (bytes s)) ("-0.5" ∷ "0.0" ∷ "1134.5" ∷ "1.500" ∷ "4.0" ∷ "-10.25" ∷ "7" ∷ "1234567890123456789012345678901234567890.12" ∷ [])
    ≡ negsuc 499 ∷ pos 0 ∷ pos 1134500 ∷ pos 1500 ∷ pos 4000 ∷ negsuc 10249 ∷ pos 7000 ∷ pos 1234567890123456789012345678901234567890120 ∷ []
unfolding thousandths unsigned_thousandths before_point after_point is_negative unsigned
decimal-values = refl

-- what is read
pub decimals-read :
    map (λ s. read_decimal (bytes s)) ("-0.5" ∷ "-0.0" ∷ "2000000" ∷ "2147483.647" ∷ "2147483.648" ∷ "-1234567890123456789012345678901234567890.1" ∷ [])
    ≡ Some (negsuc 499) ∷ None ∷ Some (pos 2000000000) ∷ Some (pos 2147483647) ∷ Some (pos 2147483647)
    ∷ Some (negsuc 2147483646)
    ∷ []
unfolding read_decimal clamp_to thousandths is_decimal has_point before_point after_point unsigned_thousandths is_whole is_one_to_three is_minus_zero is_number
    is_positive is_negative unsigned same
decimals-read = refl
