-- The input parted (01: "a table, the line `events`, then events"; "without the line `events` all input is table and no event follows").
use Rattle.std.specs.Prelude.{ℕ, ◌+◌, Bool, cond, List, ltb, eqb, length, get_or, take, drop}
use Rattle.text.specs.Bytes.{bytes, same, before}
use Rattle.text.specs.Lines.{lines, unlines}

-- how many lines stand before the first that is exactly `events`: all, where there is none
unfoldable pub table_lines : List ℕ → ℕ
table_lines input = before (same (bytes "events")) (lines input)

-- the line `events` is there
unfoldable pub has_events : List ℕ → Bool
has_events input = ltb (table_lines input) (length (lines input))

-- the place where it begins, behind the bytes of the lines before it; or the end of the input
unfoldable pub table_end : List ℕ → ℕ
table_end input = cond (has_events input) (length (unlines (take (table_lines input) (lines input)))) (length input)

-- table: the bytes before the line `events`, or all input
unfoldable pub table_part : List ℕ → List ℕ
table_part input = take (table_end input) input

-- the line `events` ends in LF
unfoldable pub events_ended : List ℕ → Bool
events_ended input = eqb (get_or input (table_end input + 6) 0) 10

-- the events: the bytes behind the line `events` and its LF
unfoldable pub event_part : List ℕ → List ℕ
event_part input = drop (table_end input + 7) input
