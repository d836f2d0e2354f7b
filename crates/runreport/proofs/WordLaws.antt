-- Laws of a word: its digits may be cut at 2^32 − 1, where it does not fit.
use mathlib.Core.Path.{◌≡◌, refl, sym, ◌∙◌, ap}
use mathlib.Core.Bool.{Bool, true, false, cond, ◌&&◌, ◌||◌}
use mathlib.Core.Logic.{⊎_elim}
use mathlib.Core.List.{List}
use Prim.Native.Nat.{ℕ, zero, suc, ◌≤◌, ◌<◌, min}
use native.Mathlib.Nat.{eq-or-lt_of_le}
use native.Mathlib.Omega.{arith}
use lib.Dec.{ltb, eqb}
use lib.IntN.{ℤ, pos, negsuc}
use borrow.Author.Tests.{lt-ltb, le-ltb, le-leb, lt-leb, eq-eqb, ne_eqb}
use Rattle.integers.specs.Range.{in_range}
use Rattle.text.specs.Numbers.{is_negative, unsigned, is_number, digits_value, signed, number_value}
use Rattle.text.proofs.TestLaws.{true≢false, lt_or_ge}
use Rattle.runreport.specs.PlanReading.{fits_word, is_word, word_of}

-- ---- what fits

pub fits_low : (b : Bool) (n : ℕ) → n < 2147483648 → fits_word (signed b n) ≡ true
unfolding fits_word in_range
fits_low false n h = rw (le-leb n 2147483647 (omega arith))
fits_low true zero h = refl
fits_low true (suc n) h = rw (le-leb n 2147483647 (omega arith))

pub fits-least : (b : Bool) (n : ℕ) → n ≡ 2147483648 → fits_word (signed b n) ≡ b
unfolding fits_word in_range
fits-least false n h = rw h
fits-least true n h = rw h

pub fits-high : (b : Bool) (n : ℕ) → 2147483648 < n → fits_word (signed b n) ≡ false
unfolding fits_word in_range
fits-high false n h = rw (lt-leb n 2147483647 (omega arith))
fits-high true zero h = absurd (omega arith)
fits-high true (suc n) h = rw (lt-leb n 2147483647 (omega arith))

pub fits-is : (b : Bool) (n : ℕ) → (ltb n 2147483648 || (b && eqb n 2147483648)) ≡ fits_word (signed b n)
fits-is b n =
    ⊎_elim
    (λ (l : n < 2147483648). rw (lt-ltb n 2147483648 l, fits_low b n l))
    (λ (l : 2147483648 ≤ n).
    ⊎_elim
    (λ (e : 2147483648 ≡ n). rw (le-ltb n 2147483648 l, eq-eqb n 2147483648 (sym e), fits-least b n (sym e)) (and_true b))
    (λ (k : 2147483648 < n). rw (le-ltb n 2147483648 l, ne_eqb n 2147483648 (λ e. omega arith), fits-high b n k) (and_none b))
    (eq-or-lt_of_le l))
    (lt_or_ge n 2147483648)
  where
    and_true : (b : Bool) → (b && true) ≡ b
    and_true true = refl
    and_true false = refl

    and_none : (b : Bool) → (b && false) ≡ false
    and_none true = refl
    and_none false = refl

-- ---- a cut value with its sign

-- n, or −n, where it fits, else 0
abbrev pub fitted : Bool → ℕ → ℤ
fitted b n = cond (fits_word (signed b n)) (signed b n) (pos 0)

-- from 2^31 on only −2^31 fits
pub fitted-least : (b : Bool) (n : ℕ) → 2147483648 ≤ n → fits_word (signed b n) ≡ true → fitted b n ≡ negsuc 2147483647
fitted-least b n l h =
    ⊎_elim
    (λ (e : 2147483648 ≡ n). rw (h, ← e, sym (fits-least b n (sym e)) ∙ h))
    (λ (k : 2147483648 < n). absurd (true≢false (sym h ∙ fits-high b n k)))
    (eq-or-lt_of_le l)

pub fitted_none : (b : Bool) (n : ℕ) → fits_word (signed b n) ≡ false → fitted b n ≡ pos 0
fitted_none b n h = rw h

module _ (b : Bool) (n : ℕ) where
  pub fits_cut : fits_word (signed b (min n 4294967295)) ≡ fits_word (signed b n)
  fits_cut =
      ⊎_elim
      (λ (l : n < 4294967295). let e : min n 4294967295 ≡ n = omega arith in rw e)
      (λ (l : 4294967295 ≤ n). fits-high b (min n 4294967295) (omega arith) ∙ sym (fits-high b n (omega arith)))
      (lt_or_ge n 4294967295)

  pub fitted-cut : fitted b (min n 4294967295) ≡ fitted b n
  fitted-cut =
      ⊎_elim
      (λ (l : n < 4294967295). let e : min n 4294967295 ≡ n = omega arith in rw e)
      (λ (l : 4294967295 ≤ n). rw (fits-high b (min n 4294967295) (omega arith), fits-high b n (omega arith)))
      (lt_or_ge n 4294967295)

-- ---- the word of a field

pub no_word : (s : List ℕ) → is_number s ≡ false → pos 0 ≡ word_of s
unfolding word_of is_word
no_word s e = rw e

-- from its form, its sign and its digits, cut
module _ (s : List ℕ) {form negative : Bool} {digits : List ℕ} {n : ℕ} (f : form ≡ is_number s) (g : negative ≡ is_negative s)
    (d : digits ≡ unsigned s) (e : n ≡ min (digits_value 0 digits) 4294967295) where
  pub word-tested : {fits : Bool} → fits ≡ fits_word (signed negative n) → (form && fits) ≡ is_word s
  unfolding is_word number_value
  word-tested h = rw (f, h, g, e, d) (ap (λ (x : Bool). is_number s && x) (fits_cut (is_negative s) (digits_value 0 (unsigned s))))

  pub word_read : form ≡ true → {w : ℤ} → w ≡ fitted negative n → w ≡ word_of s
  unfolding word_of is_word number_value
  word_read t h = h ∙ rw (g, e, d, sym f ∙ t) (fitted-cut (is_negative s) (digits_value 0 (unsigned s)))
