-- Theorems about a run: how long its report is, and which words are read of a text.
use mathlib.Core.Path.{◌≡◌, refl}
use mathlib.Core.Bool.{Bool, true, false, cond}
use mathlib.Core.Logic.{◌⊎◌, inl, inr}
use mathlib.Core.List.{List, [], ◌∷◌, map, flat_map}
use Prim.Native.Nat.{ℕ, zero, suc, ◌*◌, ◌≤◌}
use native.Mathlib.Omega.{arith}
use lib.Dec.{ltb, eqb}
use lib.IntN.{ℤ, pos, negsuc}
use lib.ListN.{length, get_or, length-append}
use borrow.Author.Tests.{eqb-true}
use Rattle.text.specs.Bytes.{bytes, same}
use Rattle.text.specs.Lines.{fields, lines, ends_in_lf}
use Rattle.integers.specs.Range.{in_range}
use Rattle.text.specs.Numbers.{is_negative, unsigned, is_positive, is_number, number_value}
use Rattle.text.specs.Output.{decimal}
use Rattle.text.proofs.TestLaws.{passed_or_failed}
use Rattle.text.proofs.OutputLaws.{decimal-length}
use Rattle.plans.specs.Refusals.{Verdict}
use Rattle.plans.specs.Form.{step_count, check_of, width}
use Rattle.counter.specs.declared.Tally.{Tally}
use Rattle.counter.specs.Counting.{count_of}
use Rattle.events.specs.Parting.{table_part}
use Rattle.events.specs.Listing.{Events, list, ragged, events_of}
use Rattle.events.specs.Printing.{taken_line, spoilt_line, refused_line, unless_refused}
use Rattle.runreport.specs.PlanReading.{fits_word, is_word, word_of, is_word_line, word_lines, unread_line, line_words, words_of}
use Rattle.runreport.specs.Running.{number_line, number_lines, numbered_tally, unread_text, events_text, ran_text, run_report_of}
use Rattle.runreport.proofs.PrintLaws.{count-length}
use Rattle.runreport.proofs.RunLaws.{count_most, accepted-passed}

-- ---- how long a report is

pub refused-length : (number place : ℕ) → length (refused_line number place) ≤ 50
unfolding refused_line
refused-length number place = simp length-append (omega (arith, decimal-length number, decimal-length place))

unread_length : (line : ℕ) → length (unread_text line) ≤ 28
unfolding unread_text
unread_length line = count-length (bytes "unread") line

lines-length : (counts : List ℕ) (k : ℕ) → length (number_lines counts k) ≤ 42 * k
unfolding number_lines number_line
lines-length counts zero = omega arith
lines-length counts (suc k) = simp length-append (omega (arith, lines-length counts k, count-length (decimal k) (get_or counts k 0), decimal-length k))

tally-length : (k : ℕ) (t : Tally) → k ≤ 64 → length (numbered_tally k t) ≤ 2743
unfolding numbered_tally taken_line spoilt_line
tally-length k t h =
    simp length-append (omega (arith, lines-length t.counts k, count-length (bytes "taken") t.taken, count-length (bytes "spoilt") t.spoilt))

or_length : (v : Verdict) (lines : List ℕ) → (v.number ≡ 0 → length lines ≤ 4096) → length (unless_refused v lines) ≤ 4096
or_length v lines h = go (passed_or_failed (eqb v.number 0))
  where
    go : (eqb v.number 0 ≡ true) ⊎ (eqb v.number 0 ≡ false) → length (unless_refused v lines) ≤ 4096
    go (inl e) = rw e (h (eqb-true v.number 0 e))
    go (inr e) = rw e (omega (arith, refused-length v.number v.place))

events-length : (p : List ℤ) (es : Events) → (check_of p).number ≡ 0 → length (events_text p es) ≤ 4096
events-length p (list values) h =
    or_length (count_of p values).verdict (numbered_tally (step_count p) (count_of p values).tally)
    (λ z. omega (arith, tally-length (step_count p) (count_of p values).tally (count_most p (accepted-passed p h))))
events-length p (ragged line) h = omega (arith, refused-length 23 line)

-- a report has at most 4,096 bytes
pub run_fits : (input : List ℕ) → length (run_report_of input) ≤ 4096
unfolding run_report_of ran_text
run_fits input = first (ltb 131072 (length input))
  where
    second : (b : Bool) → length
        (cond b (unread_text (unread_line (table_part input)))
        (ran_text (words_of (table_part input)) (events_of false (width (words_of (table_part input))) input))) ≤ 4096
    second true = omega (arith, unread_length (unread_line (table_part input)))
    second false =
        let p = words_of (table_part input) in
        or_length (check_of p) (events_text p (events_of false (width p) input)) (events-length p (events_of false (width p) input))

    first : (b : Bool)
        → length (cond b (unread_text 0)
        (cond (ltb 0 (unread_line (table_part input))) (unread_text (unread_line (table_part input)))
        (ran_text (words_of (table_part input)) (events_of false (width (words_of (table_part input))) input)))) ≤ 4096
    first true = omega (arith, unread_length 0)
    first false = second (ltb 0 (unread_line (table_part input)))

-- ---- worked examples

-- words: 01's numbers that fit 32 bits
pub words-read :
    map (λ s. words_of (bytes s)) ("" ∷ "2\t0\n" ∷ "2\n0\n" ∷ "-2147483648\t2147483647\n" ∷ [])
    ≡ [] ∷ (pos 2 ∷ pos 0 ∷ []) ∷ (pos 2 ∷ pos 0 ∷ []) ∷ (negsuc 2147483647 ∷ pos 2147483647 ∷ []) ∷ []
unfolding flat_map words_of line_words word_of is_word fits_word in_range lines fields is_number is_positive is_negative unsigned number_value same
words-read = refl

-- the lowest line that cannot be read
pub lines_unread :
    map (λ s. unread_line (bytes s)) ("" ∷ "1\n2\t3\n" ∷ "1\n2" ∷ "\n" ∷ "1\n2\t\n3\n" ∷ "1\n2\n2147483648\n" ∷ "-0\n" ∷ [])
    ≡ 0 ∷ 0 ∷ 2 ∷ 1 ∷ 2 ∷ 3 ∷ 1 ∷ []
unfolding unread_line word_lines is_word_line is_word fits_word in_range lines fields ends_in_lf is_number is_positive is_negative unsigned number_value same
lines_unread = refl
