-- What `gaterun` prints: number and count per region, then `taken`, `spoilt`; or `refused`, number, place; or `unread` and a line.
use Rattle.std.specs.Prelude.{ℕ, zero, suc, false, cond, List, [], ◌++◌, ltb, ℤ, length, get_or}
use Rattle.text.specs.Bytes.{bytes}
use Rattle.text.specs.Output.{decimal}
use Rattle.plans.specs.Form.{width, step_count, check_of}
use Rattle.counter.specs.declared.Tally.{Tally}
use Rattle.counter.specs.Counting.{Counting, count_of}
use Rattle.events.specs.Parting.{table_part}
use Rattle.events.specs.Listing.{Events, list, ragged, events_of}
use Rattle.events.specs.Printing.{count_line, taken_line, spoilt_line, refused_line, unless_refused}
use Rattle.runreport.specs.PlanReading.{unread_line, words_of}

-- ---- counts

-- the line of region r: its number and its count
unfoldable pub number_line : List ℕ → ℕ → List ℕ
number_line counts r = count_line (decimal r) (get_or counts r 0)

-- the lines of the regions below k
unfoldable pub number_lines : List ℕ → ℕ → List ℕ
number_lines counts zero = []
number_lines counts (suc k) = number_lines counts k ++ number_line counts k

-- number and count of the regions below k, then `taken`, `spoilt`
unfoldable pub numbered_tally : ℕ → Tally → List ℕ
numbered_tally k t = (number_lines t.counts k ++ taken_line t.taken) ++ spoilt_line t.spoilt

-- ---- refusals

-- `unread`, tab, line, LF
unfoldable pub unread_text : ℕ → List ℕ
unread_text line = count_line (bytes "unread") line

-- ---- a plan and its events

-- what is printed of a count by a plan of k steps
abbrev pub count_text : ℕ → Counting → List ℕ
count_text k c = unless_refused c.verdict (numbered_tally k c.tally)

-- by a plan that passes: a ragged line is 23
abbrev pub events_text : List ℤ → Events → List ℕ
events_text p (ragged line) = refused_line 23 line
events_text p (list values) = count_text (step_count p) (count_of p values)

-- the plan's refusals, 21 and 22, come before 23 of its events
unfoldable pub ran_text : List ℤ → Events → List ℕ
ran_text p events = unless_refused (check_of p) (events_text p events)

-- of a whole input: what stands before the line `events` is the plan's text; a text that cannot be read comes before all refusals
unfoldable pub run_report_of : List ℕ → List ℕ
run_report_of input =
    cond (ltb 131072 (length input)) (unread_text 0)
    (cond (ltb 0 (unread_line (table_part input))) (unread_text (unread_line (table_part input)))
    (ran_text (words_of (table_part input)) (events_of false (width (words_of (table_part input))) input)))
