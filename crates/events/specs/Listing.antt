-- The events of an input (01: "events of n tab-parted numbers; a line not so, or without LF (`events` itself too), is 23 with its line number in the
-- whole input; a number beyond 32 bits is spoilt"), its lists where there are several (request e: "one `events` line before each list"), and their column
-- lines (request g: "The line directly after an `events` that opens a list is always read as this one").
use Rattle.std.specs.Prelude.{ℕ, ◌+◌, Bool, true, false, not, cond, ◌&&◌, ltb, eqb, ℤ, length, drop}
use mathlib.Core.List.{List, [], ◌∷◌, map, flat_map}
use Rattle.text.specs.Bytes.{bytes, same, before, every}
use Rattle.text.specs.Numbers.{is_number, number_value}
use Rattle.text.specs.Lines.{parts, fields, lines, ends_in_lf}
use Rattle.events.specs.Parting.{table_lines, has_events, events_ended, event_part}

-- ── Lines ──

-- a line as it is read: the column line of a list, `events` that opens a further list, or the line of an event
pub data Line : Type 0 where
  columns : List ℕ → Line
  opening : Line
  event : List ℕ → Line

-- `events` opens a further list where there may be several
abbrev pub opens : Bool → List ℕ → Bool
opens several line = several && same (bytes "events") line

-- how lines are read of which the first is a column line (headed) or not
abbrev pub read_lines : Bool → Bool → List (List ℕ) → List Line
read_lines several headed [] = []
read_lines several true (l ∷ ls) = columns l ∷ read_lines several false ls
read_lines several false (l ∷ ls) = cond (opens several l) (opening ∷ read_lines several true ls) (event l ∷ read_lines several false ls)

-- ── Bad lines ──

-- an event: n fields, each a number
unfoldable pub is_event : ℕ → List ℕ → Bool
is_event n line = eqb (length (fields line)) n && every is_number (fields line)

-- a line read as an event is one; a column line is tested by its names, and a wrong one refused (31) before any bad line
abbrev pub is_good : ℕ → Line → Bool
is_good n (columns line) = true
is_good n opening = true
is_good n (event line) = is_event n line

-- how many lines stand before the first that is not good
unfoldable pub good_lines : ℕ → List Line → ℕ
good_lines n ls = before (λ line. not (is_good n line)) ls

-- the lowest bad line, counted from 1: the first that is not good, else the last where it is without LF; 0 where there is none
unfoldable pub bad_line : Bool → Bool → ℕ → List ℕ → ℕ
bad_line several headed n part =
    cond (ltb (good_lines n (read_lines several headed (lines part))) (length (lines part))) (good_lines n (read_lines several headed (lines part)) + 1)
    (cond (ends_in_lf part) 0 (length (lines part)))

-- the lowest bad line of an input, counted from 1 over all of it: the lines of the table, the line `events`, the lines behind it; 0 where there is none
unfoldable pub ragged_line : Bool → Bool → ℕ → List ℕ → ℕ
ragged_line several headed n input =
    cond (not (has_events input)) 0
    (cond (not (events_ended input)) (table_lines input + 1)
    (cond (ltb 0 (bad_line several headed n (event_part input))) (table_lines input + 1 + bad_line several headed n (event_part input))
    0))

-- ── Column lines ──

abbrev pub columns_read : List Line → List (List ℕ)
columns_read [] = []
columns_read (columns line ∷ ls) = line ∷ columns_read ls
columns_read (opening ∷ ls) = columns_read ls
columns_read (event line ∷ ls) = columns_read ls

-- the column line of each list that a line `events` with its LF opens. What stands behind the last LF is a line here, even where it is empty: a column line
-- missing at the input's end is the empty line there
unfoldable pub column_lines : Bool → List ℕ → List (List ℕ)
column_lines several input =
    cond (has_events input && events_ended input) (columns_read (read_lines several true (parts 10 ([] ∷ []) (event_part input)))) []

-- ── Values ──

-- the values of a line
unfoldable pub line_values : List ℕ → List ℤ
line_values line = map number_value (fields line)

-- the flat list of the values of all lines
unfoldable pub values : List ℕ → List ℤ
values part = flat_map line_values (lines part)

-- ── One list ──

-- the flat list of values, or refusal 23 (ragged) with the number of the lowest bad line
pub data Events : Type 0 where
  list : List ℤ → Events
  ragged : ℕ → Events

-- the lines of events: all behind `events` or, where a column line comes first, those behind its LF
unfoldable pub list_part : Bool → List ℕ → List ℕ
list_part headed part = cond headed (drop (before (λ c. eqb c 10) part + 1) part) part

-- without the line `events` there is nothing behind it
unfoldable pub events_of : Bool → ℕ → List ℕ → Events
events_of headed n input =
    cond (ltb 0 (ragged_line false headed n input)) (ragged (ragged_line false headed n input))
    (list (values (list_part headed (event_part input))))

-- ── Several lists ──

-- the lists with a line put before the first
abbrev pub to_first : List ℕ → List (List (List ℕ)) → List (List (List ℕ))
to_first l [] = (l ∷ []) ∷ []
to_first l (ls ∷ lists) = (l ∷ ls) ∷ lists

-- the lines of events, parted where a list is opened
abbrev pub parted_lines : List Line → List (List (List ℕ))
parted_lines [] = [] ∷ []
parted_lines (columns line ∷ ls) = parted_lines ls
parted_lines (opening ∷ ls) = [] ∷ parted_lines ls
parted_lines (event line ∷ ls) = to_first line (parted_lines ls)

-- the lines of each list: behind the table's, which come first; without the line `events` there is no list
unfoldable pub list_lines : List ℕ → List (List (List ℕ))
list_lines input = drop 1 (parted_lines (read_lines true false (lines input)))

-- the flat list of values of each list
unfoldable pub value_lists : List ℕ → List (List ℤ)
value_lists input = map (flat_map line_values) (list_lines input)
