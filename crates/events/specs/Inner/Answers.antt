-- What the readers of an input answer.
use Rattle.std.specs.Prelude.{ℕ, zero, suc, ◌+◌, cond, leb, ℤ, length, Option, Some, None, Result, Ok, Err}
use mathlib.Core.List.{List, [], map, flat_map}
use Rattle.text.specs.Numbers.{clamp}
use Rattle.text.specs.Inner.Kept.{read_number, kept}
use Rattle.text.specs.Lines.{fields, lines}
use Rattle.events.specs.Parting.{table_lines, has_events, table_end, events_ended}
use Rattle.events.specs.Listing.{Events, list, ragged}
use Rattle.events.specs.declared.parting.Parted.{Parted}
use Rattle.events.specs.declared.parting.Opening.{Opening}
use Rattle.events.specs.declared.listing.ListRefusal.{ListRefusal}
use Rattle.events.specs.declared.listing.ListRefusal.TheVariants.{Ragged, Short}

-- the number of the line `events`, if it is there
unfoldable pub events_line : List ℕ → Option ℕ
events_line input = cond (has_events input) (Some (table_lines input + 1)) None

-- where the lines behind it start, if it ends in LF
unfoldable pub events_start : List ℕ → Option ℕ
events_start input = cond (events_ended input) (Some (table_end input + 7)) None

-- what `split` answers
unfoldable pub parted_of : List ℕ → Parted
parted_of input = record { table = table_end input; line = events_line input; start = events_start input }

-- what the search for the line `events` answers
unfoldable pub opening_of : List ℕ → Opening
opening_of input = record { at = table_end input; line = events_line input }

-- the number of a line counted from 1, where 0 stands for none
abbrev pub above_zero : ℕ → Option ℕ
above_zero zero = None
above_zero (suc n) = Some (suc n)

-- the values listed, each as it is kept: counting them is counting the values themselves (`count_kept` in the counter's proofs)
abbrev pub listed : Events → List ℤ
listed (list vs) = map clamp vs
listed (ragged line) = []

-- the values kept of a line, and of all lines
unfoldable pub line_kept : List ℕ → List ℤ
line_kept line = map (λ f. kept (read_number f)) (fields line)

unfoldable pub values_kept : List ℕ → List ℤ
values_kept part = flat_map line_kept (lines part)

-- what `read_events` answers with room for so many values
abbrev pub answer_of : Events → ℕ → Result ℕ ListRefusal
answer_of (list vs) room = cond (leb (length vs) room) (Ok (length vs)) (Err Short)
answer_of (ragged line) room = Err (Ragged line)
