-- The column line that an input's list is counted with.
use Rattle.std.specs.Prelude.{cond, ◌&&◌, List, ℕ}
use Rattle.text.specs.Inner.Places.{line_from}
use Rattle.tables.specs.Columns.{right_line}
use Rattle.events.specs.Parting.{has_events, events_ended, table_part, event_part}

-- the line behind `events`; where no list is opened none is asked for, and the right one stands for it
unfoldable pub column_line : List ℕ → List ℕ
column_line input = cond (has_events input && events_ended input) (line_from (event_part input) 0) (right_line (table_part input))
