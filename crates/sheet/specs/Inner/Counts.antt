-- Counting the lists of an input.
use Rattle.std.specs.Prelude.{◌≡◌, ℕ, true, ℤ, length}
use mathlib.Core.List.{List, map, flat_map}
use Rattle.text.specs.Bytes.{every}
use Rattle.text.specs.Lines.{lines}
use Rattle.text.specs.Output.{over}
use Rattle.counter.specs.declared.Tally.{Tally}
use Rattle.counter.specs.Counting.{count_of}
use Rattle.tallies.specs.Sums.{total}
use Rattle.tallies.specs.Inner.Bounds.{Within}
use Rattle.events.specs.Listing.{is_event, ragged_line, line_values, list_lines}
use Rattle.sheet.specs.Inner.Columns.{numbers_of}
use Rattle.sheet.specs.declared.counting.Counts.{Counts}

-- each line is an event of so many values
abbrev pub SomeEvents : List ℕ → Type 0
SomeEvents part = (n : ℕ) × (every (is_event n) (lines part) ≡ true)

-- no line behind the table is bad
abbrev pub SomeLists : List ℕ → Type 0
SomeLists input = (n : ℕ) × (ragged_line true true n input ≡ 0)

-- the tallies of lists by a plan
unfoldable pub tallies_of : List ℤ → List (List (List ℕ)) → List Tally
tallies_of p lists = map (λ (ls : List (List ℕ)). (count_of p (flat_map line_values ls)).tally) lists

-- what counting the lists of an input by a plan answers, and the columns, d, afterwards
pub record CountedLists (p : List ℤ) (input d : List ℕ) (c : Counts) (after : List ℕ) : Type 0 where
  pub lists_are : c.lists ≡ length (list_lines input)
  pub total_is : c.total ≡ total (tallies_of p (list_lines input))
  pub total_most : Within 306774016 c.total
  pub written : after ≡ over (flat_map numbers_of (tallies_of p (list_lines input))) d
