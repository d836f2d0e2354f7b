-- Worked examples of inputs and of printed lines.
use mathlib.Core.Path.{◌≡◌, refl}
use mathlib.Core.Bool.{Bool, true, false}
use mathlib.Core.List.{List, [], ◌∷◌, map, flat_map}
use Prim.Native.Nat.{ℕ}
use Prim.Native.String.{String, ◌++◌}
use lib.IntN.{ℤ, pos, negsuc}
use Rattle.text.specs.Bytes.{bytes, same}
use Rattle.text.specs.Numbers.{is_negative, unsigned, is_positive, is_number, number_value}
use Rattle.text.specs.Lines.{fields, lines, ends_in_lf}
use Rattle.text.specs.Output.{decimal}
use Rattle.events.specs.Parting.{table_lines, table_end, has_events, table_part, events_ended, event_part}
use Rattle.events.specs.Listing.{Events, list, ragged, is_event, good_lines, bad_line, ragged_line, column_lines, line_values, values, list_part, events_of}
use Rattle.events.specs.Listing.{list_lines, value_lists}
use Rattle.events.specs.Printing.{count_line, taken_line, spoilt_line, refused_line}

-- ── Inputs ──

-- an input, its table part, and its events of n values, behind a column line or not
record Example : Type 0 where
  headed : Bool
  n : ℕ
  input : String
  table : String
  events : Events

-- without a column line
abbrev example : ℕ → String → String → Events → Example
example n input table events = record { headed = false; n = n; input = input; table = table; events = events }

abbrev headed_example : ℕ → String → String → Events → Example
headed_example n input table events = record { headed = true; n = n; input = input; table = table; events = events }

-- 01's table
abbrev table01 : String
table01 =
    "dims\tFSC\tSSC\nrect\tLive\tRing\tFSC\t300\t600\nellip\tRing\t-\tFSC\tSSC\t400\t200\t40000\t0\t30625\t1\n"
    ++ "quad\tQ\tRing\t1\tFSC\t1\t400\tLo\t0\tHi\t500\nand\tBoth\t-\tLive\t!Hi\n"

abbrev examples : List Example
examples =
    -- 01's input, with its column line
    headed_example 2 (table01 ++ "events\nFSC\tSSC\n600\t200\n400\t375\n599\t200\n400\t376\n350\t200\n70000\t0\n") table01
    (list (pos 600 ∷ pos 200 ∷ pos 400 ∷ pos 375 ∷ pos 599 ∷ pos 200 ∷ pos 400 ∷ pos 376 ∷ pos 350 ∷ pos 200 ∷ pos 70000 ∷ pos 0 ∷ []))
    -- only the line that is exactly `events` parts the input
    ∷ example 1 "dims\tA\nevents\r\nevents\t\n events\nevents\n1\n" "dims\tA\nevents\r\nevents\t\n events\n" (list (pos 1 ∷ []))
    -- `events` as line 1: the table is empty
    ∷ example 1 "events\n1\n" "" (list (pos 1 ∷ []))
    -- `events` without LF
    ∷ example 1 "events" "" (ragged 1)
    ∷ example 1 "dims\tA\nevents" "dims\tA\n" (ragged 2)
    -- no line `events`: all input is table, with or without a last LF
    ∷ example 1 "" "" (list [])
    ∷ example 1 "dims\tA\nrect" "dims\tA\nrect" (list [])
    -- no events
    ∷ example 1 "dims\tA\nevents\n" "dims\tA\n" (list [])
    -- the lowest bad line: too many fields, too few, a field that is no number, no LF
    ∷ example 1 "dims\tA\nevents\n1\n1\t2\nx\n" "dims\tA\n" (ragged 4)
    ∷ example 2 "dims\tA\tB\nevents\n1\n" "dims\tA\tB\n" (ragged 3)
    ∷ example 2 "dims\tA\tB\nevents\n1\t2\n3\t\n" "dims\tA\tB\n" (ragged 4)
    ∷ example 1 "dims\tA\nevents\n0\n-65536\n-0\n1" "dims\tA\n" (ragged 5)
    ∷ example 1 "dims\tA\nevents\n1\n2" "dims\tA\n" (ragged 4)
    -- an empty line, also as the last
    ∷ example 1 "dims\tA\nevents\n\n1\n" "dims\tA\n" (ragged 3)
    ∷ example 1 "dims\tA\nevents\n1\n\n" "dims\tA\n" (ragged 4)
    -- a second line `events`
    ∷ example 1 "dims\tA\nevents\n1\nevents\n2\n" "dims\tA\n" (ragged 4)
    -- numbers beyond 32 bits are listed as they are, off the scale; a bad form is bad at any length
    ∷ example 1 "dims\tA\nevents\n4294967296\n-1234567890123456789012345678901234567890\n" "dims\tA\n"
    (list (pos 4294967296 ∷ negsuc 1234567890123456789012345678901234567889 ∷ []))
    ∷ example 1 "dims\tA\nevents\n1234567890123456789012345678901234567890x\n" "dims\tA\n" (ragged 3)
    -- a column line is no event, whatever it says; a bad line behind it is counted with it
    ∷ headed_example 1 "dims\tA\nevents\nA\n1\n2\n" "dims\tA\n" (list (pos 1 ∷ pos 2 ∷ []))
    ∷ headed_example 1 "dims\tA\nevents\n7\n1\n" "dims\tA\n" (list (pos 1 ∷ []))
    ∷ headed_example 1 "dims\tA\nevents\nevents\n1\n" "dims\tA\n" (list (pos 1 ∷ []))
    ∷ headed_example 1 "dims\tA\nevents\nA\n1\nx\n" "dims\tA\n" (ragged 5)
    ∷ headed_example 1 "dims\tA\nevents\nA\n1\nevents\nA\n" "dims\tA\n" (ragged 5)
    -- a column line without LF, a list without events, and no line `events`
    ∷ headed_example 1 "dims\tA\nevents\nA" "dims\tA\n" (ragged 3)
    ∷ headed_example 1 "dims\tA\nevents\nA\n" "dims\tA\n" (list [])
    ∷ headed_example 1 "dims\tA\nevents" "dims\tA\n" (ragged 2)
    ∷ headed_example 1 "dims\tA\n" "dims\tA\n" (list [])
    ∷ []

pub example_tables : map (λ e. table_part (bytes e.input)) examples ≡ map (λ e. bytes e.table) examples
unfolding table_part table_end has_events table_lines lines same
example_tables = refl

pub example-events : map (λ e. events_of e.headed e.n (bytes e.input)) examples ≡ map (λ e. e.events) examples
unfolding events_of has_events events_ended event_part table_end table_lines ragged_line bad_line good_lines
    is_event values list_part line_values flat_map lines fields
    ends_in_lf same is_number is_positive is_negative unsigned number_value
example-events = refl

-- ── Several lists ──

-- an input, its lists, its lowest bad line where there may be several lists, and the column lines of its lists
record Lists : Type 0 where
  n : ℕ
  input : String
  lists : List (List ℤ)
  bad : ℕ
  columns : List String

abbrev several : List Lists
several =
    -- three lists, the second empty
    record {
      n = 1;
      input = "dims\tA\nevents\nA\n1\n2\nevents\nA\nevents\nB\n3\n";
      lists = (pos 1 ∷ pos 2 ∷ []) ∷ [] ∷ (pos 3 ∷ []) ∷ [];
      bad = 0;
      columns = "A" ∷ "A" ∷ "B" ∷ [];
    }
    -- two values an event
    ∷ record {
      n = 2;
      input = "dims\tA\tB\nevents\nA\tB\n1\t2\nevents\nA\tB\n3\t4\n";
      lists = (pos 1 ∷ pos 2 ∷ []) ∷ (pos 3 ∷ pos 4 ∷ []) ∷ [];
      bad = 0;
      columns = "A\tB" ∷ "A\tB" ∷ [];
    }
    -- no line `events`; one with nothing behind it: the column line is missing, which is an empty one; one without LF
    ∷ record { n = 1; input = "dims\tA\n"; lists = []; bad = 0; columns = [] }
    ∷ record { n = 1; input = "dims\tA\nevents\n"; lists = [] ∷ []; bad = 0; columns = "" ∷ [] }
    ∷ record { n = 1; input = "dims\tA\nevents"; lists = [] ∷ []; bad = 2; columns = [] }
    -- column lines that are `events`, an event and an empty line
    ∷ record {
      n = 1;
      input = "dims\tevents\nevents\nevents\n1\nevents\nevents\n2\n";
      lists = (pos 1 ∷ []) ∷ (pos 2 ∷ []) ∷ [];
      bad = 0;
      columns = "events" ∷ "events" ∷ [];
    }
    ∷ record { n = 1; input = "dims\tA\nevents\n7\n1\nevents\n\n2\n"; lists = (pos 1 ∷ []) ∷ (pos 2 ∷ []) ∷ []; bad = 0; columns = "7" ∷ "" ∷ [] }
    -- a further `events` without LF opens none; a further one with nothing behind it does; a column line without LF
    ∷ record { n = 1; input = "dims\tA\nevents\nA\n1\nevents"; lists = (pos 1 ∷ []) ∷ [] ∷ []; bad = 5; columns = "A" ∷ [] }
    ∷ record { n = 1; input = "dims\tA\nevents\nA\n1\nevents\n"; lists = (pos 1 ∷ []) ∷ [] ∷ []; bad = 0; columns = "A" ∷ "" ∷ [] }
    ∷ record { n = 1; input = "dims\tA\nevents\nA\n1\nevents\nA"; lists = (pos 1 ∷ []) ∷ [] ∷ []; bad = 6; columns = "A" ∷ "A" ∷ [] }
    -- bad lines in the second and the third list, of which the lowest counts
    ∷ record {
      n = 1;
      input = "dims\tA\nevents\nA\n1\nevents\nA\n2\t3\nevents\nA\nx\n";
      lists = (pos 1 ∷ []) ∷ (pos 2 ∷ pos 3 ∷ []) ∷ (pos 72 ∷ []) ∷ [];
      bad = 7;
      columns = "A" ∷ "A" ∷ "A" ∷ [];
    }
    ∷ []

pub several-lists : map (λ e. value_lists (bytes e.input)) several ≡ map (λ e. e.lists) several
unfolding value_lists list_lines line_values flat_map lines fields same number_value is_negative unsigned
several-lists = refl

pub several-bad : map (λ e. ragged_line true true e.n (bytes e.input)) several ≡ map (λ e. e.bad) several
unfolding ragged_line has_events events_ended event_part table_end table_lines bad_line good_lines is_event lines fields ends_in_lf same
    is_number is_positive is_negative unsigned
several-bad = refl

pub several-columns : map (λ e. column_lines true (bytes e.input)) several ≡ map (λ e. map bytes e.columns) several
unfolding column_lines has_events events_ended event_part table_end table_lines lines same
several-columns = refl

-- ── Printed lines ──

pub printed :
    count_line (bytes "Live") 3 ∷ taken_line 5 ∷ spoilt_line 0 ∷ refused_line 23 1107 ∷ []
    ≡ map bytes ("Live\t3\n" ∷ "taken\t5\n" ∷ "spoilt\t0\n" ∷ "refused\t23\t1107\n" ∷ [])
unfolding count_line taken_line spoilt_line refused_line decimal
printed = refl
