-- What `gatesheet` prints (02: "a line per region in table order: name, the count from each list and the sum; then `taken` and `spoilt` laid out
-- alike, and so are lines that come in later"; "The printed sheet shows it as `unclaimed` after `taken`"; "Shares of the parent stand after a region's
-- sum as two whole numbers over all lists, count and parent's count (without a parent, the taken), never divided"; "The last line is `events` and the
-- total of all events").
use Rattle.std.specs.Prelude.{ℕ, ◌/◌, true, cond, ltb, ℤ, length, get_or}
use mathlib.Core.List.{List, [], ◌∷◌, ◌++◌, map, flat_map}
use Rattle.text.specs.Bytes.{bytes}
use Rattle.counter.specs.declared.Tally.{Tally}
use Rattle.counter.specs.Counting.{count_of}
use Rattle.tallies.specs.Sums.{total}
use Rattle.gates.specs.Gate.{regions}
use Rattle.tables.specs.Table.{sum_of, nth_region}
use Rattle.tables.specs.Head.{dimensions, gates}
use Rattle.tables.specs.Refusals.{table_verdict}
use Rattle.tables.specs.Compile.{plan_of}
use Rattle.tables.specs.Columns.{columns_verdict}
use Rattle.tables.specs.Demand.{count_of_parent}
use Rattle.events.specs.Parting.{table_part}
use Rattle.events.specs.Listing.{ragged_line, column_lines, value_lists}
use Rattle.events.specs.Printing.{numbers_line, refused_line, unless_refused}
use Rattle.report.specs.Report.{region_lines}

-- ---- numbers

-- a number of each list's tally, and of their sum
abbrev pub with_sum : (Tally → ℕ) → List Tally → List ℕ
with_sum number tallies = map number tallies ++ (number (total tallies) ∷ [])

abbrev pub count_in : ℕ → Tally → ℕ
count_in r t = get_or t.counts r 0

-- the share of region r over all lists: its count and its parent's
abbrev pub share : List ℕ → Tally → ℕ → List ℕ
share table t r = count_in r t ∷ count_of_parent table t (nth_region (regions (gates table)) r).parent ∷ []

unfoldable pub region_numbers : List ℕ → List Tally → ℕ → List ℕ
region_numbers table tallies r = with_sum (count_in r) tallies ++ share table (total tallies) r

-- ---- the lines that follow the regions

-- a name, and which number of a tally
pub record Summary : Type 0 where
  pub name : List ℕ
  pub number : Tally → ℕ

abbrev pub of_taken : Summary
of_taken = record { name = bytes "taken"; number = λ t. t.taken }

abbrev pub of_unclaimed : Summary
of_unclaimed = record { name = bytes "unclaimed"; number = λ t. t.unclaimed }

abbrev pub of_spoilt : Summary
of_spoilt = record { name = bytes "spoilt"; number = λ t. t.spoilt }

abbrev pub summaries : List Summary
summaries = of_taken ∷ of_unclaimed ∷ of_spoilt ∷ []

abbrev pub summary_line : List Tally → Summary → List ℕ
summary_line tallies s = numbers_line s.name (with_sum s.number tallies)

-- the number of events that lists of values hold, n for each event
unfoldable pub event_total : ℕ → List (List ℤ) → ℕ
event_total n lists = sum_of (λ (values : List ℤ). length values / n) lists

-- ---- a sheet

-- the tally of each list
unfoldable pub list_tallies : List ℕ → List (List ℤ) → List Tally
list_tallies table lists = map (λ (values : List ℤ). (count_of (plan_of table) values).tally) lists

unfoldable pub sheet_lines : List ℕ → List (List ℤ) → List ℕ
sheet_lines table lists =
    let tallies = list_tallies table lists in
    (region_lines (regions (gates table)) (region_numbers table tallies) (length (regions (gates table))) ++ flat_map (summary_line tallies) summaries)
    ++ numbers_line (bytes "events") (event_total (length (dimensions table)) lists ∷ [])

-- the table's refusals come first, then that of the first wrong column line of all lists, then that of the lowest bad line; its plan has room for 4,096 words
unfoldable pub sheet_printed : List ℕ → List (List ℕ) → ℕ → List (List ℤ) → List ℕ
sheet_printed table columns line lists =
    unless_refused (table_verdict 4096 table)
    (unless_refused (columns_verdict table columns)
    (cond (ltb 0 line) (refused_line 23 line) (sheet_lines table lists)))

-- of a whole input, up to 65,536 bytes
unfoldable pub sheet_of : List ℕ → List ℕ
sheet_of input =
    cond (ltb 65536 (length input)) (refused_line 1 0)
    (sheet_printed (table_part input) (column_lines true input) (ragged_line true true (length (dimensions (table_part input))) input) (value_lists input))
