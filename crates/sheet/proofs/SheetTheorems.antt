-- What a sheet means to a reader: its events are those of its lists, its sums are those of one count over the joined lists, with one list it is what
-- `gatecount` prints, and the order of the table's lines moves no number.
use mathlib.Core.Path.{◌≡◌, refl, sym, ap, ap₂, ◌∙◌}
use mathlib.Core.Bool.{true, false, not}
use mathlib.Core.Logic.{⊎_elim}
use mathlib.Core.List.Permᴰ
use mathlib.Core.List.{List, [], ◌∷◌, ◌++◌, flat_map, append_assoc, append-nil}
use mathlib.Core.List.Memᴰ
use mathlib.Core.List.Memᴰ.{head as here}
use mathlib.Core.List.Memᴰ.{tail as there}
use Prim.Native.Nat.{ℕ, ◌+◌, ◌*◌, ◌/◌, ◌%◌, ◌≤◌, ◌<◌}
use native.Mathlib.Omega.{arith}
use native.Mathlib.Nat.{zero-mul, add-mul, div-add-mod', mul-div_cancel, mul-mod_left}
use lib.Dec.{eqb}
use lib.IntN.{ℤ}
use lib.ListN.{length, get_or, take, length-append}
use borrow.Author.Tests.{lt-ltb, le-ltb}
use Rattle.plans.specs.Refusals.{passed}
use Rattle.plans.specs.Form.{width}
use Rattle.text.specs.Bytes.{bytes, every, before}
use Rattle.text.specs.Lines.{fields}
use Rattle.counter.specs.declared.Tally.{Tally}
use Rattle.counter.specs.Counting.{Counting, tally_of, count_of}
use Rattle.counter.proofs.CounterTheorems.{counts_all, taken_and_spoilt}
use Rattle.tallies.specs.Sums.{total}
use Rattle.tallies.proofs.SumTheorems.{count-all}
use Rattle.gates.specs.Gate.{Region, regions}
use Rattle.tables.specs.Table.{◌∈◌, number_of, sum_of, nth_region}
use Rattle.tables.specs.Head.{dimensions, gate_lines, gates, LineOrder, reordered}
use Rattle.tables.specs.Refusals.{table_verdict}
use Rattle.tables.specs.Compile.{plan_of}
use Rattle.tables.specs.Columns.{is_right, first_differing, columns_verdict}
use Rattle.tables.proofs.ListLaws.{every-at, map-from}
use Rattle.tables.proofs.SumLaws.{sum_same, sum_add}
use Rattle.tables.proofs.Acceptance.{passed-accepted}
use Rattle.tables.proofs.ReorderLaws.{own-order}
use Rattle.tables.proofs.ColumnTheorems.{all_right, first-wrong, verdict_in_any-order}
use Rattle.tables.proofs.CompileLaws.{plan-passes}
use Rattle.tables.proofs.CountLaws.{plan-width, counted}
use Rattle.events.specs.Parting.{table_part}
use Rattle.events.specs.Listing.{is_event, ragged_line, column_lines, line_values, list_lines, value_lists}
use Rattle.events.specs.Printing.{numbers_line, count_line, taken_line, spoilt_line, refused_line}
use Rattle.events.proofs.EventTheorems.{lines-values}
use Rattle.events.proofs.AnswerLaws.{events-bad}
use Rattle.events.proofs.ListsLaws.{lists-good}
use Rattle.report.specs.Report.{region_lines, count_numbers, tally_lines, printed, report_of}
use Rattle.report.proofs.ReportTheorems.{report_tally}
use Rattle.sheet.specs.Sheet.{with_sum, region_numbers, Summary, of_taken, of_spoilt, summaries, event_total, list_tallies, sheet_lines, sheet_printed, sheet_of}
use Rattle.sheet.proofs.ListLaws.{Complete, sum-map, taken-adds, spoilt-adds, one-there, one-events, same_line, same_columns}
use Rattle.sheet.proofs.OrderLaws.{NumbersBy, numbers_by_lem}

-- ---- the lists of an input without a bad line

module _ (n : ℕ) (input : List ℕ) (good : ragged_line true true n input ≡ 0) where
  -- n values for each line
  list-values : (ls : List (List ℕ)) → ls ∈ list_lines input → length (flat_map line_values ls) ≡ length ls * n
  list-values ls m = lines-values n ls (every-at (every (is_event n)) m (lists-good n input good))

  -- so each list has complete events
  pub lists-complete : Complete n (value_lists input)
  unfolding value_lists
  lists-complete values m =
      let ls = map-from (flat_map line_values) (list_lines input) m in
      rw (ls.2, list-values ls.0 ls.1) (mul-mod_left (length ls.0) n)

  -- the total of events is the number of lines in the lists
  pub events_are_lines : 1 ≤ n → event_total n (value_lists input) ≡ sum_of length (list_lines input)
  unfolding value_lists event_total
  events_are_lines h =
      sum-map (λ (values : List ℤ). length values / n) (flat_map line_values) (list_lines input)
      ∙ sum_same _ length (list_lines input) (λ ls m. rw (list-values ls m) (mul-div_cancel (length ls) h))

-- ---- the total of all events

is-width : (table : List ℕ) → width (plan_of table) ≡ length (dimensions table)
unfolding plan_of
is-width table = plan-width (length (dimensions table)) (regions (gates table))

-- of an accepted table and lists of complete events; those of an input without a bad line are, by `lists-complete`
module _ (table : List ℕ) (accepted : table_verdict 4096 table ≡ passed) (lists : List (List ℤ)) (complete : Complete (length (dimensions table)) lists) where
  -- the total is taken plus spoilt, summed over the lists
  pub total_by_list : event_total (length (dimensions table)) lists ≡ sum_of (λ (t : Tally). t.taken + t.spoilt) (list_tallies table lists)
  unfolding event_total list_tallies
  total_by_list =
      let p = plan_of table in
      let passes = plan-passes 4096 table (passed-accepted 4096 table accepted) in
      let w = is-width table in
      sum_same _ (λ (vs : List ℤ). (count_of p vs).tally.taken + (count_of p vs).tally.spoilt) lists
      (λ vs m. sym (taken_and_spoilt p vs passes (rw w (complete vs m)) ∙ rw w))
      ∙ sym (sum-map (λ (t : Tally). t.taken + t.spoilt) (λ (vs : List ℤ). (count_of p vs).tally) lists)

  -- and the sum of taken plus the sum of spoilt
  pub total_is : event_total (length (dimensions table)) lists ≡ (total (list_tallies table lists)).taken + (total (list_tallies table lists)).spoilt
  total_is =
      let tallies = list_tallies table lists in
      total_by_list ∙ sum_add (λ (t : Tally). t.taken) (λ (t : Tally). t.spoilt) tallies ∙ sym (ap₂ ◌+◌ (taken-adds tallies) (spoilt-adds tallies))

  -- no count of a list is refused
  pub each-counted : (values : List ℤ) → values ∈ lists → (count_of (plan_of table) values).verdict ≡ passed
  each-counted values m =
      let passes = plan-passes 4096 table (passed-accepted 4096 table accepted) in
      ap (λ (c : Counting). c.verdict) (counted (plan_of table) values passes (rw (is-width table) (complete values m)))

-- ---- the sums are those of one count over the joined lists

module _ (n : ℕ) where
  joined_length : (lists : List (List ℤ)) → Complete n lists → length (flat_map (λ vs. vs) lists) ≡ event_total n lists * n
  unfolding flat_map event_total
  joined_length [] c = sym (zero-mul n)
  joined_length (vs ∷ lists) c =
      let i = joined_length lists (λ us m. c us (there m)) in
      let d = div-add-mod' (length vs) n in
      let a = add-mul (length vs / n) (event_total n lists) n in
      let z : length vs % n ≡ 0 = c vs (here refl) in
      simp length-append (omega arith)

  -- the total of events is the number of events in the joined lists
  pub events-joined : 1 ≤ n → (lists : List (List ℤ)) → Complete n lists → event_total n lists ≡ length (flat_map (λ vs. vs) lists) / n
  events-joined h lists c = rw (joined_length lists c) (sym (mul-div_cancel (event_total n lists) h))

-- each sum, of a region's counts, of taken, of unclaimed and of spoilt, is the number that one count over the joined lists gives
pub sums-joined : (table : List ℕ) (lists : List (List ℤ)) → Complete (length (dimensions table)) lists
    → total (list_tallies table lists) ≡ (count_of (plan_of table) (flat_map (λ vs. vs) lists)).tally
unfolding list_tallies
sums-joined table lists c = sym (count-all (plan_of table) lists (λ vs m. rw (is-width table) (c vs m)))

-- which is not refused
pub joined-counted : (table : List ℕ) → table_verdict 4096 table ≡ passed → (lists : List (List ℤ)) → Complete (length (dimensions table)) lists
    → (count_of (plan_of table) (flat_map (λ vs. vs) lists)).verdict ≡ passed
joined-counted table accepted lists c =
    let n = length (dimensions table) in
    let whole : length (flat_map (λ vs. vs) lists) % n ≡ 0 = rw (joined_length n lists c) (mul-mod_left (event_total n lists) n) in
    let passes = plan-passes 4096 table (passed-accepted 4096 table accepted) in
    ap (λ (k : Counting). k.verdict) (counted (plan_of table) (flat_map (λ vs. vs) lists) passes (rw (is-width table) whole))

-- ---- refusals

module _ (input : List ℕ) where
  -- too long an input, or a refused table: `gatesheet` prints what `gatecount` prints
  pub long-alike : 65536 < length input → sheet_of input ≡ report_of input
  unfolding sheet_of report_of
  long-alike h = rw (lt-ltb 65536 (length input) h)

  pub table-alike : length input ≤ 65536 → eqb (table_verdict 4096 (table_part input)).number 0 ≡ false → sheet_of input ≡ report_of input
  unfolding sheet_of report_of sheet_printed printed
  table-alike h z = rw (le-ltb 65536 (length input) h, z)

  -- and so it does where there is no further `events` and the column line is wrong, or a line behind the table is bad
  module _ (short : length input ≤ 65536) (accepted : table_verdict 4096 (table_part input) ≡ passed) (few : length (list_lines input) ≤ 1) where
    pub columns-alike : eqb (columns_verdict (table_part input) (column_lines true input)).number 0 ≡ false → sheet_of input ≡ report_of input
    unfolding sheet_of report_of sheet_printed printed
    columns-alike z =
        let same = same_columns input few in
        let y : eqb (columns_verdict (table_part input) (column_lines false input)).number 0 ≡ false = rw same at z in
        rw (le-ltb 65536 (length input) short, accepted, same, y)

    pub ragged-alike : 0 < ragged_line true true (length (dimensions (table_part input))) input → sheet_of input ≡ report_of input
    unfolding sheet_of report_of sheet_printed printed
    ragged-alike bad =
        let n = length (dimensions (table_part input)) in
        let same = same_line input few n in
        let line = ragged_line false true n input in
        let there : 0 < line = omega (arith, same) in
        rw (le-ltb 65536 (length input) short, accepted, same_columns input few, same, lt-ltb 0 line there, events-bad true n input there)

-- ---- refusals of several lists

module _ (input : List ℕ) (short : length input ≤ 65536) (accepted : table_verdict 4096 (table_part input) ≡ passed) where
  -- where a column line is wrong, of whichever list, the first wrong one is refused, whatever the lines of events are
  pub sheet_wrong-columns : every (is_right (table_part input)) (column_lines true input) ≡ false
      → sheet_of input
      ≡ refused_line 31 (first_differing (dimensions (table_part input))
      (fields (get_or (column_lines true input) (before (λ line. not (is_right (table_part input) line)) (column_lines true input)) [])))
  unfolding sheet_of sheet_printed
  sheet_wrong-columns wrong = rw (le-ltb 65536 (length input) short, accepted, first-wrong (table_part input) (column_lines true input) wrong)

  -- where all are right, the lowest bad line over all lists
  pub sheet_bad-line : every (is_right (table_part input)) (column_lines true input) ≡ true → (line : ℕ)
      → line ≡ ragged_line true true (length (dimensions (table_part input))) input → 0 < line → sheet_of input ≡ refused_line 23 line
  unfolding sheet_of sheet_printed
  sheet_bad-line right line is some-line =
      let passes = (all_right (table_part input) (column_lines true input)).1 right in
      rw (le-ltb 65536 (length input) short, accepted, passes, ← is, lt-ltb 0 line some-line)

-- ---- one list

-- the lines of the regions, then those that follow, each with those of its numbers that are chosen
abbrev pub lines_with : List Summary → (List ℕ → List ℕ) → List ℕ → List Tally → List ℕ
lines_with following chosen table tallies =
    region_lines (regions (gates table)) (λ r. chosen (region_numbers table tallies r)) (length (regions (gates table)))
    ++ flat_map (λ (s : Summary). numbers_line s.name (chosen (with_sum s.number tallies))) following

-- a sheet has `taken`, `unclaimed`, `spoilt` there, all lines with all their numbers, then the line `events`
pub sheet_is : (table : List ℕ) (lists : List (List ℤ))
    → sheet_lines table lists
    ≡ lines_with summaries (λ numbers. numbers) table (list_tallies table lists)
    ++ numbers_line (bytes "events") (event_total (length (dimensions table)) lists ∷ [])
unfolding sheet_lines
sheet_is table lists = refl

-- the lines that `gatecount` has there
abbrev pub count_summaries : List Summary
count_summaries = of_taken ∷ of_spoilt ∷ []

tally-lines : (rs : List Region) (t : Tally)
    → tally_lines rs t
    ≡ region_lines rs (count_numbers t.counts) (length rs) ++ flat_map (λ (s : Summary). numbers_line s.name (s.number t ∷ [])) count_summaries
unfolding tally_lines taken_line spoilt_line count_line flat_map
tally-lines rs t =
    let spoilt = spoilt_line t.spoilt in
    append_assoc (region_lines rs (count_numbers t.counts) (length rs)) (taken_line t.taken) spoilt
    ∙ ap (λ (l : List ℕ). region_lines rs (count_numbers t.counts) (length rs) ++ (taken_line t.taken ++ l)) (sym (append-nil spoilt))

module _ (input : List ℕ) (short : length input ≤ 65536) (accepted : table_verdict 4096 (table_part input) ≡ passed)
    (right : columns_verdict (table_part input) (column_lines true input) ≡ passed)
    (good : ragged_line true true (length (dimensions (table_part input))) input ≡ 0) where
  -- nothing is refused: the sheet is that of the input's lists
  pub sheet_lines_lem : sheet_of input ≡ sheet_lines (table_part input) (value_lists input)
  unfolding sheet_of sheet_printed
  sheet_lines_lem = rw (le-ltb 65536 (length input) short, accepted, right, good)

  module _ (vs : List ℤ) (one : value_lists input ≡ vs ∷ []) where
    its_tally : (count_of (plan_of (table_part input)) vs).tally
        ≡ tally_of (plan_of (table_part input)) vs (length vs / length (dimensions (table_part input)))
    its_tally =
        let table = table_part input in
        let n = length (dimensions table) in
        let w = is-width table in
        let c : length vs % width (plan_of table) ≡ 0 = rw w (lists-complete n input good vs (rw one (here refl))) in
        rw (counts_all (plan_of table) vs (plan-passes 4096 table (passed-accepted 4096 table accepted)) c, w)

    -- of an input with one list, `gatecount` prints the lines of the sheet with the first number of each, and no line `unclaimed` or `events`
    pub one_list : (sheet_of input ≡ sheet_lines (table_part input) (vs ∷ []))
        × (report_of input ≡ lines_with count_summaries (take 1) (table_part input) (list_tallies (table_part input) (vs ∷ [])))
    unfolding region_numbers list_tallies
    one_list =
        let table = table_part input in
        let n = length (dimensions table) in
        let rs = regions (gates table) in (
          sheet_lines_lem ∙ ap (sheet_lines table) one,
          report_tally input short accepted (rw (same_columns input (one-there n input good vs one)) at right) vs (one-events n input good vs one)
              ∙ ap (tally_lines rs) (sym its_tally)
              ∙ tally-lines rs (count_of (plan_of table) vs).tally,
        )

-- ---- the order of the table's lines

-- text is the accepted table, again the same with its gate lines in another order
pub record OrderFree (text again : List ℕ) (lists : List (List ℤ)) : Type 0 where
  -- it is accepted too
  pub compiles : table_verdict 4096 again ≡ passed
  -- each region is found by its name, at one of the 64 numbers
  pub found : (r : Region) → r ∈ regions (gates text)
      → (number_of (regions (gates again)) r.name < 64) × (nth_region (regions (gates again)) (number_of (regions (gates again)) r.name) ≡ r)
  -- and has there the same numbers: of each list, their sum and the share
  pub by_name : (r : Region) → r ∈ regions (gates text)
      → region_numbers again (list_tallies again lists) (number_of (regions (gates again)) r.name)
      ≡ region_numbers text (list_tallies text lists) (number_of (regions (gates text)) r.name)
  -- and so have `taken`, `unclaimed` and `spoilt`
  pub summed : (s : Summary) → s ∈ summaries → with_sum s.number (list_tallies again lists) ≡ with_sum s.number (list_tallies text lists)
  -- the same column lines are right, and wrong ones are refused alike
  pub same_columns : (columns : List (List ℕ)) → columns_verdict again columns ≡ columns_verdict text columns
  -- the total of all events is the same
  pub same_events : event_total (length (dimensions again)) lists ≡ event_total (length (dimensions text)) lists

module _ (text : List ℕ) (accepted : table_verdict 4096 text ≡ passed) (ks : List (List ℕ)) (order : LineOrder text ks)
    (again : List ℕ) (e : again ≡ reordered text ks) (lists : List (List ℤ)) (complete : Complete (length (dimensions text)) lists) where
  -- both tables' numbers are those by the lines of text
  numbers-again : NumbersBy text again lists
  numbers-again = numbers_by_lem text accepted ks order again e lists complete

  numbers-own : NumbersBy text text lists
  numbers-own =
      let own = sym (own-order 4096 text (passed-accepted 4096 text accepted) ks order) in
      numbers_by_lem text accepted (gate_lines text) (Permᴰ.refl (gate_lines text)) text own lists complete

  same_summary : (s : Summary) → s ∈ summaries → with_sum s.number (list_tallies again lists) ≡ with_sum s.number (list_tallies text lists)
  same_summary s m =
      ⊎_elim (λ i. rw i (numbers-again.taken_listed ∙ sym numbers-own.taken_listed))
      (λ k. ⊎_elim (λ i. rw i (numbers-again.unclaimed_listed ∙ sym numbers-own.unclaimed_listed))
      (λ n. ⊎_elim (λ i. rw i (numbers-again.spoilt_listed ∙ sym numbers-own.spoilt_listed)) (λ l. absurd (Memᴰ.not-nil l)) (Memᴰ.cases_cons n))
      (Memᴰ.cases_cons k))
      (Memᴰ.cases_cons m)

  -- the order of the gate lines moves no number of a sheet
  pub order-free : OrderFree text again lists
  order-free = record {
    compiles = numbers-again.compiles;
    found = numbers-again.found;
    by_name = λ r m. numbers-again.region_listed r m ∙ sym (numbers-own.region_listed r m);
    summed = same_summary;
    same_columns = λ columns. rw e (verdict_in_any-order 4096 text accepted ks order columns);
    same_events = ap (λ (n : ℕ). event_total n lists) numbers-again.same_n;
  }
