-- How long a sheet is: it never has more than 1,300,000 bytes.
use mathlib.Core.Path.{◌≡◌, ◌∙◌}
use mathlib.Core.Bool.{true, false, cond}
use mathlib.Core.Logic.{◌⊎◌, inl, inr}
use mathlib.Core.List.{List, [], ◌∷◌, ◌++◌, map, flat_map, append_assoc}
use Prim.Native.Nat.{ℕ, zero, suc, ◌+◌, ◌*◌, ◌/◌, ◌≤◌, ◌<◌}
use native.Mathlib.Nat.{mul-div_cancel, div-le_self}
use native.Mathlib.Omega.{arith}
use lib.Dec.{ltb}
use lib.IntN.{ℤ}
use lib.ListN.{length, length-append, length-map}
use borrow.Author.Tests.{ltb-false}
use Rattle.plans.specs.Form.{width}
use Rattle.text.specs.Bytes.{every}
use Rattle.text.specs.Lines.{unlines}
use Rattle.text.specs.Output.{last_digits, decimal}
use Rattle.text.proofs.TestLaws.{and_left, and_right, passed_or_failed}
use Rattle.text.proofs.OutputLaws.{decimal-length}
use Rattle.counter.specs.declared.Tally.{Tally}
use Rattle.counter.specs.Counting.{count_of}
use Rattle.tallies.specs.Sums.{total}
use Rattle.tallies.specs.Inner.Bounds.{Within}
use Rattle.tallies.proofs.SumTheorems.{count-within}
use Rattle.gates.specs.Gate.{regions}
use Rattle.tables.specs.Table.{sum_of}
use Rattle.tables.specs.Head.{dimensions, gates}
use Rattle.tables.specs.Refusals.{table_verdict}
use Rattle.tables.specs.Compile.{plan_of}
use Rattle.tables.specs.Columns.{columns_verdict}
use Rattle.tables.proofs.Acceptance.{Accepted}
use Rattle.tables.proofs.CompileLaws.{head-width}
use Rattle.tables.proofs.CountLaws.{plan-width}
use Rattle.events.specs.Parting.{table_part}
use Rattle.events.specs.Listing.{is_event, ragged_line, column_lines, line_values, list_lines, value_lists}
use Rattle.events.specs.Printing.{numbers_text, refused_line, unless_refused}
use Rattle.events.proofs.EventTheorems.{lines-values, lines-bytes}
use Rattle.events.proofs.ListsLaws.{AllEvents, lists-good, lists-bytes}
use Rattle.report.specs.Report.{region_line}
use Rattle.report.proofs.AcceptedLaws.{names-short}
use Rattle.report.proofs.ReportLaws.{refused-length, lines-length, unless-fits}
use Rattle.compiler.proofs.VerdictLaws.{number-accepted}
use Rattle.sheet.specs.Sheet.{share, count_in, region_numbers, Summary, of_taken, of_unclaimed, of_spoilt, summary_line, event_total, list_tallies, sheet_lines, sheet_printed, sheet_of}

-- ---- numbers as text

-- half a digit for each one that is few, and one digit more
digits-few : (k n : ℕ) → 2 * length (last_digits k n) ≤ 2 + n
digits-few zero n = omega arith
digits-few (suc k) n = go (passed_or_failed (ltb n 10)) (digits-few k (n / 10))
  where
    go : (ltb n 10 ≡ true) ⊎ (ltb n 10 ≡ false) → 2 * length (last_digits k (n / 10)) ≤ 2 + n / 10 → 2 * length (last_digits (suc k) n) ≤ 2 + n
    go (inl e) h = rw e (omega arith)
    go (inr e) h = rw e (simp length-append (omega (arith, ltb-false n 10 e)))

decimal-few : (n : ℕ) → 2 * length (decimal n) ≤ 2 + n
unfolding decimal
decimal-few n = digits-few 20 n

-- any numbers
text-length : (xs : List ℕ) → length (numbers_text xs) ≤ 21 * length xs + 1
text-length [] = omega arith
text-length (x ∷ xs) = simp length-append (omega (arith, decimal-length x, text-length xs))

-- numbers of which the sum is known, then any numbers
text-few : (xs ys : List ℕ) → 2 * length (numbers_text (xs ++ ys)) ≤ 4 * length xs + sum_of (λ (x : ℕ). x) xs + 42 * length ys + 2
text-few [] ys = omega (arith, text-length ys)
text-few (x ∷ xs) ys = simp length-append (omega (arith, decimal-few x, text-few xs ys))

-- ---- lists of events

-- a number of a tally that is at most the number of its events
abbrev UpToEvents : (Tally → ℕ) → Type 0
UpToEvents number = (e : ℕ) (t : Tally) → Within e t → number t ≤ e

module _ (n : ℕ) (some_values : 1 ≤ n) where
  event-number : (ls : List (List ℕ)) → every (is_event n) ls ≡ true → length (flat_map line_values ls) / n ≡ length ls
  event-number ls e = rw (lines-values n ls e) (mul-div_cancel (length ls) some_values)

  -- an event takes two bytes at least
  events-bytes : (lists : List (List (List ℕ))) → AllEvents n lists → 2 * sum_of length lists ≤ length (flat_map unlines lists)
  unfolding flat_map
  events-bytes [] e = omega arith
  events-bytes (ls ∷ lists) e =
      let good = and_left (every (is_event n) ls) (every (every (is_event n)) lists) e in
      let k = div-le_self (length (flat_map line_values ls)) n in
      simp length-append
      (omega (
        arith,
        k,
        event-number ls good,
        lines-bytes n ls good,
        events-bytes lists (and_right (every (is_event n) ls) (every (every (is_event n)) lists) e),
      ))

  module _ (p : List ℤ) (wide : width p ≡ n) (number : Tally → ℕ) (few : UpToEvents number) where
    numbers-few : (lists : List (List (List ℕ))) → AllEvents n lists
        → sum_of (λ (x : ℕ). x) (map number (map (λ (vs : List ℤ). (count_of p vs).tally) (map (flat_map line_values) lists))) ≤ sum_of length lists
    numbers-few [] e = omega arith
    numbers-few (ls ∷ lists) e =
        let most : number (count_of p (flat_map line_values ls)).tally ≤ length (flat_map line_values ls) / n =
        rw wide at (few _ _ (count-within p (flat_map line_values ls))) in
        omega (
          arith,
          most,
          event-number ls (and_left (every (is_event n) ls) (every (every (is_event n)) lists) e),
          numbers-few lists (and_right (every (is_event n) ls) (every (every (is_event n)) lists) e),
        )

-- ---- a sheet

module _ (input : List ℕ) (short : length input ≤ 65536) (a : Accepted 4096 (table_part input))
    (whole : ragged_line true true (length (dimensions (table_part input))) input ≡ 0) where
  abbrev table : List ℕ
  table = table_part input

  abbrev tallies : List Tally
  tallies = list_tallies table (value_lists input)

  -- a number of each list, then any numbers: of k lists with e events 7 * k + 2 * e ≤ 65,537, so 4 * k + e ≤ 37,449
  listed-few : (number : Tally → ℕ) → UpToEvents number → (ys : List ℕ) → 2 * length (numbers_text (map number tallies ++ ys)) ≤ 37451 + 42 * length ys
  unfolding list_tallies value_lists plan_of
  listed-few number few ys =
      let n = length (dimensions table) in
      let some = (head-width table a.head).0 in
      let good = lists-good n input whole in
      let k : length (map number tallies) ≡ length (list_lines input) =
      length-map tallies number ∙ length-map (value_lists input) _ ∙ length-map (list_lines input) (flat_map line_values) in
      let t = text-few (map number tallies) ys in
      let b = lists-bytes input in
      let c = events-bytes n some (list_lines input) good in
      let d = numbers-few n some (plan_of table) (plan-width n (regions (gates table))) number few (list_lines input) good in
      omega arith

  region-fits : (r : ℕ) → r < length (regions (gates table)) → length (region_line (regions (gates table)) (region_numbers table tallies) r) ≤ 18804
  unfolding region_line region_numbers
  region-fits r h =
      let t = listed-few (count_in r) (λ e t w. w.count_most r) (count_in r (total tallies) ∷ share table (total tallies) r) in
      simp (append_assoc, length-append) (omega (arith, t, names-short 4096 table a r h))

  summary_fits : (s : Summary) → UpToEvents s.number → length (summary_line tallies s) ≤ length s.name + 18746
  summary_fits s few = simp length-append (omega (arith, listed-few s.number few (s.number (total tallies) ∷ [])))

  lines_fit : length (sheet_lines table (value_lists input)) ≤ 1300000
  unfolding sheet_lines flat_map
  lines_fit =
      let m = length (regions (gates table)) in
      let r = lines-length (regions (gates table)) (region_numbers table tallies) 18804 m m region-fits (omega arith) in
      let taken = summary_fits of_taken (λ e t w. w.taken_most) in
      let unclaimed = summary_fits of_unclaimed (λ e t w. w.unclaimed_most) in
      let spoilt = summary_fits of_spoilt (λ e t w. w.spoilt_most) in
      simp length-append (omega (arith, a.rules.few, decimal-length (event_total (length (dimensions table)) (value_lists input))))

printed-fits : (input : List ℕ) → length input ≤ 65536
    → length
    (sheet_printed (table_part input) (column_lines true input) (ragged_line true true (length (dimensions (table_part input))) input) (value_lists input))
    ≤ 1300000
unfolding sheet_printed
printed-fits input short =
    unless-fits 1300000 (table_verdict 4096 table)
    (unless_refused (columns_verdict table (column_lines true input)) (cond (ltb 0 line) (refused_line 23 line) (sheet_lines table (value_lists input))))
    (omega arith)
    (λ e. unless-fits 1300000 (columns_verdict table (column_lines true input))
    (cond (ltb 0 line) (refused_line 23 line) (sheet_lines table (value_lists input))) (omega arith)
    (λ _. go (number-accepted 4096 table e) (passed_or_failed (ltb 0 line))))
  where
    table : List ℕ
    table = table_part input

    line : ℕ
    line = ragged_line true true (length (dimensions table)) input

    go : Accepted 4096 table → (ltb 0 line ≡ true) ⊎ (ltb 0 line ≡ false)
        → length (cond (ltb 0 line) (refused_line 23 line) (sheet_lines table (value_lists input))) ≤ 1300000
    go a (inl e) = rw e (omega (arith, refused-length 23 line))
    go a (inr e) = let z : line ≡ 0 = omega (arith, ltb-false 0 line e) in rw e (lines_fit input short a z)

pub sheet_fits : (input : List ℕ) → length (sheet_of input) ≤ 1300000
unfolding sheet_of
sheet_fits input = go (passed_or_failed (ltb 65536 (length input)))
  where
    go : (ltb 65536 (length input) ≡ true) ⊎ (ltb 65536 (length input) ≡ false) → length (sheet_of input) ≤ 1300000
    go (inl e) = rw e (omega (arith, refused-length 1 0))
    go (inr e) = rw e (printed-fits input (ltb-false 65536 (length input) e))
