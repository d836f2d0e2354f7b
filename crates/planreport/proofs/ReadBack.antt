-- What is read of a plan's text is the plan: each word from its digits, each line from its words, the plan from its lines.
use mathlib.Core.Path.{◌≡◌, refl, sym, ◌∙◌, ap, ap₂}
use mathlib.Core.Bool.{Bool, true, false, not, ◌||◌}
use mathlib.Core.Logic.{◌⊎◌, inl, inr, ⊎_elim}
use mathlib.Core.List.{List, [], ◌∷◌, ◌++◌, map, flat_map}
use Prim.Native.Nat.{ℕ, zero, suc, ◌+◌, ◌-◌, ◌≤◌, ◌<◌, ◌^◌}
use native.Mathlib.Omega.{arith}
use lib.Dec.{eqb, ltb, leb}
use lib.IntN.{ℤ, pos, negsuc, neg_ℤ}
use lib.ListN.{length, get_or, take, drop, take-append-drop, length-append, length-map, drop_of_length-le}
use lib.Seq.{drop-drop, get_or-append-add}
use borrow.Author.Tests.{le-ltb, leb-true, ne_eqb}
use Rattle.text.specs.Bytes.{bytes, same, every, before}
use Rattle.text.specs.Inner.Counts.{without}
use Rattle.text.specs.Numbers.{is_digit, is_negative, unsigned, is_positive, is_number, digits_value, number_value}
use Rattle.integers.specs.Range.{in_range}
use Rattle.text.specs.Lines.{fields, lines, unlines, ends_in_lf, unfields}
use Rattle.text.specs.Output.{decimal}
use Rattle.text.proofs.TestLaws.{and_left, and_right, passed_or_failed, lt_or_ge}
use Rattle.text.proofs.BytesLaws.{same_eq}
use Rattle.text.proofs.OutputLaws.{decimal-low}
use Rattle.text.proofs.TextTheorems.{lines-unlines, decimal-number, decimal-value}
use Rattle.plans.specs.Words.{part}
use Rattle.plans.specs.Refusals.{passed}
use Rattle.plans.specs.Form.{length_at, next_at, step_count, steps_end, check_of}
use Rattle.runreport.specs.PlanReading.{fits_word, is_word, word_of, is_word_line, word_lines, unread_line, line_words, words_of}
use Rattle.tables.proofs.TextLaws.{fields-unfields}
use Rattle.planreport.specs.PlanText.{word_text, words_line, step_parts, plan_parts, plan_text}
use Rattle.planreport.proofs.TextLaws.{length-is, plan-ends, head-length, step-length, step-next}

-- ---- digits

no_sign : (k m : ℕ) → 0 < m → neg_ℤ (pos k) ≡ pos m → ⊥
no_sign zero m l e = let z : 0 ≡ m = cc in omega arith
no_sign (suc k) m l e = let z : ◌≡◌ {A = ℕ} 0 1 = cc in omega arith

module _ (m : ℕ) (l : 0 < m) (h : m < 10 ^ 20) where
  sign-none : is_negative (decimal m) ≡ false
  unfolding number_value
  sign-none = go (passed_or_failed (is_negative (decimal m)))
    where
      go : (is_negative (decimal m) ≡ true) ⊎ (is_negative (decimal m) ≡ false) → is_negative (decimal m) ≡ false
      go (inl e) = absurd (no_sign (digits_value 0 (unsigned (decimal m))) m l (rw e at (decimal-value m h)))
      go (inr e) = e

  unsigned-same : unsigned (decimal m) ≡ decimal m
  unfolding unsigned
  unsigned-same = rw sign-none

  digits_value_lem : digits_value 0 (decimal m) ≡ m
  unfolding number_value
  digits_value_lem =
      let e : pos (digits_value 0 (decimal m)) ≡ pos m = rw (sign-none, unsigned-same) at (decimal-value m h) in
      cc

  digits-positive : is_positive (decimal m) ≡ true
  unfolding is_number
  digits-positive = go (passed_or_failed (same (decimal m) (bytes "0"))) (decimal-number m h)
    where
      go : (same (decimal m) (bytes "0") ≡ true) ⊎ (same (decimal m) (bytes "0") ≡ false)
          → (same (decimal m) (bytes "0") || is_positive (unsigned (decimal m))) ≡ true → is_positive (decimal m) ≡ true
      go (inl e) n = absurd (let z : 0 ≡ m = ap (digits_value 0) (sym (same_eq (decimal m) (bytes "0") e)) ∙ digits_value_lem in omega arith)
      go (inr e) n = rw (e, unsigned-same) at n

digits-all : (n : ℕ) → n < 10 ^ 20 → every is_digit (decimal n) ≡ true
unfolding is_positive
digits-all n h =
    ⊎_elim
    (λ (l : n < 1). let e : n ≡ 0 = omega arith in rw (decimal-low n (omega arith), e))
    (λ (l : 1 ≤ n). and_right (ltb 48 (get_or (decimal n) 0 0)) (every is_digit (decimal n)) (digits-positive n l h))
    (lt_or_ge n 1)

digits-without : (c : ℕ) → c < 48 → (s : List ℕ) → every is_digit s ≡ true → without c s ≡ true
digits-without c h [] e = refl
digits-without c h (x ∷ s) e =
    let d = and_left (is_digit x) (every is_digit s) e in
    let k = leb-true 48 x (and_left (leb 48 x) (leb x 57) d) in
    rw (ne_eqb x c (λ q. omega arith)) (digits-without c h s (and_right (is_digit x) (every is_digit s) e))

-- ---- words

pub fits-pos : (n : ℕ) → fits_word (pos n) ≡ true → n ≤ 2147483647
unfolding fits_word in_range
fits-pos n e = leb-true n 2147483647 e

pub fits_neg : (n : ℕ) → fits_word (negsuc n) ≡ true → n ≤ 2147483647
unfolding fits_word in_range
fits_neg n e = leb-true n 2147483647 (and_left (leb n 2147483647) true e)

pub text-pos : (n : ℕ) → word_text (pos n) ≡ decimal n
unfolding word_text
text-pos n = rw (le-ltb n 0 (omega arith))

pub text-neg : (n : ℕ) → word_text (negsuc n) ≡ 45 ∷ decimal (suc n)
unfolding word_text
text-neg n = refl

number-neg : (d : List ℕ) → is_positive d ≡ true → is_number (45 ∷ d) ≡ true
unfolding is_number same is_negative unsigned
number-neg d p = p

-- its text is a number, of its value, and has no tab and no LF
text-number : (w : ℤ) → fits_word w ≡ true → is_number (word_text w) ≡ true
text-number (pos n) e = rw (text-pos n) (decimal-number n (let k = fits-pos n e in omega arith))
text-number (negsuc n) e = rw (text-neg n) (number-neg (decimal (suc n)) (digits-positive (suc n) (omega arith) (let k = fits_neg n e in omega arith)))

text-value : (w : ℤ) → fits_word w ≡ true → number_value (word_text w) ≡ w
unfolding number_value is_negative unsigned
text-value (pos n) e = rw (text-pos n) (decimal-value n (let k = fits-pos n e in omega arith))
text-value (negsuc n) e = rw (text-neg n, digits_value_lem (suc n) (omega arith) (let k = fits_neg n e in omega arith))

text-without : (c : ℕ) → c < 45 → (w : ℤ) → fits_word w ≡ true → without c (word_text w) ≡ true
text-without c h (pos n) e = rw (text-pos n) (digits-without c (omega arith) (decimal n) (digits-all n (let k = fits-pos n e in omega arith)))
text-without c h (negsuc n) e =
    rw (text-neg n, ne_eqb 45 c (λ q. omega arith))
    (digits-without c (omega arith) (decimal (suc n)) (digits-all (suc n) (let k = fits_neg n e in omega arith)))

pub text-word : (w : ℤ) → fits_word w ≡ true → is_word (word_text w) ≡ true
unfolding is_word
text-word w e = rw (text-number w e, text-value w e, e)

pub word_back : (w : ℤ) → fits_word w ≡ true → word_of (word_text w) ≡ w
unfolding word_of
word_back w e = rw (text-word w e) (text-value w e)

-- ---- lines

append_without : (c : ℕ) (a s : List ℕ) → without c a ≡ true → without c s ≡ true → without c (a ++ s) ≡ true
append_without c [] s h k = k
append_without c (x ∷ a) s h k =
    rw (and_left (not (eqb x c)) (without c a) h) (append_without c a s (and_right (not (eqb x c)) (without c a) h) k)

unfields-without : (fs : List (List ℕ)) → every (without 10) fs ≡ true → without 10 (unfields fs) ≡ true
unfields-without [] e = refl
unfields-without (f ∷ []) e = and_left (without 10 f) true e
unfields-without (f ∷ (g ∷ fs)) e =
    append_without 10 f (9 ∷ unfields (g ∷ fs)) (and_left (without 10 f) (every (without 10) (g ∷ fs)) e)
    (unfields-without (g ∷ fs) (and_right (without 10 f) (every (without 10) (g ∷ fs)) e))

-- ---- lines of words

words-without : (c : ℕ) → c < 45 → (ws : List ℤ) → every fits_word ws ≡ true → every (without c) (map word_text ws) ≡ true
words-without c h [] e = refl
words-without c h (w ∷ ws) e =
    rw (text-without c h w (and_left (fits_word w) (every fits_word ws) e)) (words-without c h ws (and_right (fits_word w) (every fits_word ws) e))

-- words that fit, one at least
abbrev pub Printable : List ℤ → Type 0
Printable ws = (1 ≤ length ws) × (every fits_word ws ≡ true)

module _ (ws : List ℤ) (g : Printable ws) where
  line-fields : fields (words_line ws) ≡ map word_text ws
  unfolding words_line
  line-fields = fields-unfields (map word_text ws) (rw length-map g.0) (words-without 9 (omega arith) ws g.1)

  pub line-without : without 10 (words_line ws) ≡ true
  unfolding words_line
  line-without = unfields-without (map word_text ws) (words-without 10 (omega arith) ws g.1)

  pub line-back : line_words (words_line ws) ≡ ws
  unfolding line_words
  line-back = rw line-fields (go ws g.1)
    where
      go : (vs : List ℤ) → every fits_word vs ≡ true → map word_of (map word_text vs) ≡ vs
      go [] e = refl
      go (v ∷ vs) e = ap₂ ◌∷◌ (word_back v (and_left (fits_word v) (every fits_word vs) e)) (go vs (and_right (fits_word v) (every fits_word vs) e))

  pub line-words : is_word_line (words_line ws) ≡ true
  unfolding is_word_line
  line-words = rw line-fields (go ws g.1)
    where
      go : (vs : List ℤ) → every fits_word vs ≡ true → every is_word (map word_text vs) ≡ true
      go [] e = refl
      go (v ∷ vs) e = rw (text-word v (and_left (fits_word v) (every fits_word vs) e)) (go vs (and_right (fits_word v) (every fits_word vs) e))

-- ---- a text of lines of words

-- each line is printable
abbrev pub AllPrintable : List (List ℤ) → Type 0
AllPrintable [] = Unit
AllPrintable (ws ∷ wss) = Printable ws × AllPrintable wss

-- the words of all lines
abbrev joined : List (List ℤ) → List ℤ
joined [] = []
joined (ws ∷ wss) = ws ++ joined wss

ends-behind : (a s : List ℕ) → 1 ≤ length s → ends_in_lf (a ++ s) ≡ ends_in_lf s
unfolding ends_in_lf
ends-behind a s h =
    let e : length (a ++ s) - 1 ≡ length a + (length s - 1) = omega (arith, length-append a s) in
    rw (e, get_or-append-add a s (length s - 1) 0)

unlines-ends : (l : List ℕ) (ls : List (List ℕ)) → ends_in_lf (unlines (l ∷ ls)) ≡ true
unfolding ends_in_lf
unlines-ends l [] = ends-behind l (10 ∷ []) (omega arith)
unlines-ends l (k ∷ ls) =
    ends-behind l (10 ∷ unlines (k ∷ ls)) (omega arith)
    ∙ ends-behind (10 ∷ []) (unlines (k ∷ ls)) (simp length-append (omega arith))
    ∙ unlines-ends k ls

pub lines-printed : (wss : List (List ℤ)) → AllPrintable wss → every (without 10) (map words_line wss) ≡ true
lines-printed [] g = refl
lines-printed (ws ∷ wss) g = rw (line-without ws g.0) (lines-printed wss g.1)

module _ (wss : List (List ℤ)) (g : AllPrintable wss) where
  lines-back : lines (unlines (map words_line wss)) ≡ map words_line wss
  lines-back = lines-unlines (map words_line wss) (lines-printed wss g)

  words_back : words_of (unlines (map words_line wss)) ≡ joined wss
  unfolding words_of flat_map
  words_back = rw lines-back (go wss g)
    where
      go : (vss : List (List ℤ)) → AllPrintable vss → flat_map line_words (map words_line vss) ≡ joined vss
      go [] h = refl
      go (vs ∷ vss) h = ap₂ ◌++◌ (line-back vs h.0) (go vss h.1)

  none_unread : 1 ≤ length wss → unread_line (unlines (map words_line wss)) ≡ 0
  unfolding unread_line word_lines
  none_unread l =
      rw (lines-back, all_words wss g, le-ltb (length (map words_line wss)) (length (map words_line wss)) (omega arith), ended wss l)
    where
      all_words : (vss : List (List ℤ)) → AllPrintable vss → before (λ line. not (is_word_line line)) (map words_line vss) ≡ length (map words_line vss)
      all_words [] h = refl
      all_words (vs ∷ vss) h = rw (line-words vs h.0) (ap suc (all_words vss h.1))

      ended : (vss : List (List ℤ)) → 1 ≤ length vss → ends_in_lf (unlines (map words_line vss)) ≡ true
      ended [] h = absurd (omega arith)
      ended (vs ∷ vss) h = unlines-ends (words_line vs) (map words_line vss)

-- ---- a plan

module _ (f : ℤ → Bool) where
  every_drop : (n : ℕ) (s : List ℤ) → every f s ≡ true → every f (drop n s) ≡ true
  every_drop zero s e = e
  every_drop (suc n) [] e = e
  every_drop (suc n) (x ∷ s) e = every_drop n s (and_right (f x) (every f s) e)

  every_take : (n : ℕ) (s : List ℤ) → every f s ≡ true → every f (take n s) ≡ true
  every_take zero s e = refl
  every_take (suc n) [] e = refl
  every_take (suc n) (x ∷ s) e = rw (and_left (f x) (every f s) e) (every_take n s (and_right (f x) (every f s) e))

module _ (p : List ℤ) (g : every fits_word p ≡ true) where
  part-fits : (at m : ℕ) → every fits_word (part p at m) ≡ true
  unfolding part
  part-fits at m = every_take fits_word m (drop at p) (every_drop fits_word at p g)

  part-joined : (at m : ℕ) → part p at m ++ drop (at + m) p ≡ drop at p
  unfolding part
  part-joined at m = ap (λ (l : List ℤ). take m (drop at p) ++ l) (sym (drop-drop m at p)) ∙ take-append-drop m (drop at p)

  steps_back : (left at : ℕ) → steps_end left p at ≡ length p → AllPrintable (step_parts left p at) × (joined (step_parts left p at) ≡ drop at p)
  unfolding steps_end step_parts
  steps_back zero at h = (tt, sym (drop_of_length-le p {i = at} (omega arith)))
  steps_back (suc left) at h =
      let m : ℕ = 4 + length_at p at in
      let long : length (part p at m) ≡ m = step-length p (suc left) at h (omega arith) (length-is p at) in
      let next : at + m ≡ next_at p at = step-next p (suc left) at h (omega arith) (length-is p at) in
      let rest = steps_back left (next_at p at) h in (
        ((omega arith, part-fits at m), rest.0),
        ap (λ (l : List ℤ). part p at m ++ l) (rest.1 ∙ ap (λ (k : ℕ). drop k p) (sym next)) ∙ part-joined at m,
      )

  module _ (ok : check_of p ≡ passed) where
    pub parts_printable : AllPrintable (plan_parts p)
    unfolding plan_parts
    parts_printable = ((omega (arith, head-length p ok), part-fits 0 2), (steps_back (step_count p) 2 (plan-ends p ok)).0)

    parts-joined : joined (plan_parts p) ≡ p
    unfolding plan_parts
    parts-joined = ap (λ (l : List ℤ). part p 0 2 ++ l) (steps_back (step_count p) 2 (plan-ends p ok)).1 ∙ part-joined 0 2

    -- the text of a plan that passes, whose words fit, is read as its words
    pub text-read : words_of (plan_text p) ≡ p
    unfolding plan_text
    text-read = words_back (plan_parts p) parts_printable ∙ parts-joined

    pub text_readable : unread_line (plan_text p) ≡ 0
    unfolding plan_text plan_parts
    text_readable = none_unread (plan_parts p) parts_printable (omega arith)
