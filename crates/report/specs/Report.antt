-- What `gatecount` prints (01: "It prints name and count per region in table order, then `taken`, `spoilt`; or `refused`, number, place"; 02: "The line
-- directly after an `events` that opens a list is always read as this one, in 01's case too").
use Rattle.std.specs.Prelude.{ℕ, zero, suc, true, false, cond, List, [], ◌∷◌, ◌++◌, ltb, length, get_or}
use Rattle.counter.specs.declared.Tally.{Tally}
use Rattle.counter.specs.Counting.{Counting, count_of}
use Rattle.gates.specs.Gate.{Region, regions}
use Rattle.tables.specs.Table.{nth_region}
use Rattle.tables.specs.Head.{dimensions, gates}
use Rattle.tables.specs.Refusals.{table_verdict}
use Rattle.tables.specs.Compile.{plan_of}
use Rattle.tables.specs.Columns.{columns_verdict}
use Rattle.events.specs.Parting.{table_part}
use Rattle.events.specs.Listing.{Events, list, ragged, column_lines, events_of}
use Rattle.events.specs.Printing.{numbers_line, taken_line, spoilt_line, refused_line, unless_refused}

-- ---- counts

-- the line of region r: its name and its numbers
unfoldable pub region_line : List Region → (ℕ → List ℕ) → ℕ → List ℕ
region_line rs numbers r = numbers_line (nth_region rs r).name (numbers r)

-- the lines of the first k regions, in table order
unfoldable pub region_lines : List Region → (ℕ → List ℕ) → ℕ → List ℕ
region_lines rs numbers zero = []
region_lines rs numbers (suc k) = region_lines rs numbers k ++ region_line rs numbers k

-- the number of region r is its count
abbrev pub count_numbers : List ℕ → ℕ → List ℕ
count_numbers counts r = get_or counts r 0 ∷ []

-- name and count per region, then `taken`, `spoilt`
unfoldable pub tally_lines : List Region → Tally → List ℕ
tally_lines rs t = (region_lines rs (count_numbers t.counts) (length rs) ++ taken_line t.taken) ++ spoilt_line t.spoilt

-- ---- refusals

-- what is printed of a count
abbrev pub counted_lines : List Region → Counting → List ℕ
counted_lines rs c = unless_refused c.verdict (tally_lines rs c.tally)

-- ---- a table and its events

-- of an accepted table and a right column line: a ragged line is 23
abbrev pub events_lines : List ℕ → Events → List ℕ
events_lines table (ragged line) = refused_line 23 line
events_lines table (list values) = counted_lines (regions (gates table)) (count_of (plan_of table) values)

-- the table's refusals come first, then that of its column lines, then those of its events; its plan has room for 4,096 words
unfoldable pub printed : List ℕ → List (List ℕ) → Events → List ℕ
printed table columns events = unless_refused (table_verdict 4096 table) (unless_refused (columns_verdict table columns) (events_lines table events))

-- of a whole input (01: "up to 65,536 bytes, else refusal 1")
unfoldable pub report_of : List ℕ → List ℕ
report_of input =
    cond (ltb 65536 (length input)) (refused_line 1 0)
    (printed (table_part input) (column_lines false input) (events_of true (length (dimensions (table_part input))) input))
