-- Laws of the lines of a plan's text: the lowest that cannot be read, and the words of those that can.
use mathlib.Core.Path.{◌≡◌, refl, sym, ◌∙◌, ap}
use mathlib.Core.Bool.{Bool, true, not, cond, ◌&&◌}
use mathlib.Core.List.{List, [], flat_map}
use Prim.Native.Nat.{ℕ, ◌+◌, ◌≤◌, ◌<◌}
use native.Mathlib.Omega.{arith}
use lib.Dec.{ltb}
use lib.IntN.{ℤ}
use lib.ListN.{length, get_or, set, take, length-map, get_or-map}
use borrow.Author.Tests.{lt-ltb, le-ltb}
use Rattle.std.specs.Prelude.{Some}
use Rattle.std.specs.Bool.{then_some}
use Rattle.std.specs.List.{list_all, range_with_len}
use Rattle.text.specs.Lines.{fields, lines, ends_in_lf}
use Rattle.text.specs.Inner.Places.{line_from}
use Rattle.text.specs.Output.{over}
use Rattle.text.proofs.OutputLaws.{over-take}
use Rattle.text.proofs.FilledLaws.{fields-few}
use Rattle.events.specs.Inner.Answers.{above_zero}
use Rattle.events.proofs.ListingLaws.{above-some, last-open, every-placed}
use Rattle.events.proofs.SearchLaws.{Passed, found_number, found_below, missing_number, missing_count}
use Rattle.runreport.specs.PlanReading.{is_word, is_word_line, word_of, word_lines, unread_line, line_words, words_of}

-- ---- the lowest line that cannot be read

-- a line that is no line of words
abbrev pub is_unread : List ℕ → Bool
is_unread line = not (is_word_line line)

module _ (s : List ℕ) (a k : ℕ) (p : Passed is_unread s a k) where
  pub unread_found : a < length s → is_unread (line_from s a) ≡ true → Some (k + 1) ≡ above_zero (unread_line s)
  unfolding unread_line word_lines
  unread_found l h =
      let e : unread_line s ≡ k + 1 = rw (found_number is_unread s a k p l h, lt-ltb k (length (lines s)) (found_below is_unread s a k p l h)) in
      rw e (sym (above-some (k + 1) (omega arith)))

  module _ (l : length s ≤ a) where
    all_words : unread_line s ≡ cond (ends_in_lf s) 0 k
    unfolding unread_line word_lines
    all_words =
        let m = missing_count is_unread s a k p l in
        rw (missing_number is_unread s a k p l, m, le-ltb k k (omega arith))

    -- the last line, where it is without LF
    pub unread_open : then_some (ltb 0 k && not (ends_in_lf s)) k ≡ above_zero (unread_line s)
    unread_open = rw all_words (last-open (ends_in_lf s) k)

-- ---- the words of a line

pub words-tested : (l : List ℕ) {n : ℕ} → n ≡ length (fields l) → list_all (λ k. is_word (get_or (fields l) k [])) (range_with_len 0 n) ≡ is_word_line l
unfolding is_word_line
words-tested l e = rw e (every-placed is_word [] (fields l))

pub line_words-length : (l : List ℕ) → length (line_words l) ≡ length (fields l)
unfolding line_words
line_words-length l = length-map (fields l) _

pub line_words-few : (l : List ℕ) → length (line_words l) ≤ length l + 1
line_words-few l = omega (arith, line_words-length l, fields-few l)

word_at : (l : List ℕ) (k : ℕ) → get_or (line_words l) k (word_of []) ≡ word_of (get_or (fields l) k [])
unfolding line_words
word_at l k = get_or-map word_of (fields l) k []

-- one word more of a line is written
pub line-more : (l : List ℕ) (d : List ℤ) (k : ℕ) → k < length (fields l)
    → set (over (take k (line_words l)) d) k (word_of (get_or (fields l) k [])) ≡ over (take (k + 1) (line_words l)) d
line-more l d k h =
    ap (set (over (take k (line_words l)) d) k) (sym (word_at l k)) ∙ over-take (line_words l) d k (word_of []) (omega (arith, line_words-length l))

pub words_are : (s : List ℕ) → words_of s ≡ flat_map line_words (lines s)
unfolding words_of
words_are s = refl
