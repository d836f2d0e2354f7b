-- What is written from the columns is the sheet.
use mathlib.Core.Path.{◌≡◌, refl, sym, ap, ◌∙◌}
use mathlib.Core.Bool.{true}
use mathlib.Core.List.{List, [], ◌∷◌, map, flat_map, append_assoc}
use Prim.Native.Nat.{ℕ, ◌+◌, ◌*◌, ◌<◌, ◌≤◌}
use native.Mathlib.Omega.{arith}
use lib.IntN.{ℤ}
use lib.ListN.{length, get_or}
use Rattle.plans.specs.Refusals.{passed}
use Rattle.counter.specs.declared.Tally.{Tally}
use Rattle.counter.specs.Counting.{count_of}
use Rattle.tallies.specs.Sums.{total}
use Rattle.gates.specs.Gate.{regions}
use Rattle.tables.specs.Head.{dimensions, gates}
use Rattle.tables.specs.Refusals.{table_verdict}
use Rattle.tables.specs.Compile.{plan_of}
use Rattle.tables.proofs.Acceptance.{passed-accepted}
use Rattle.events.specs.Listing.{ragged_line, line_values, list_lines, value_lists}
use Rattle.report.proofs.ReportLaws.{lines_same}
use Rattle.report.proofs.ParentLaws.{parent-count}
use Rattle.sheet.specs.Sheet.{count_in, share, region_numbers, summary_line, summaries, event_total, list_tallies, sheet_lines}
use Rattle.sheet.specs.Inner.Columns.{numbers_of, column_of}
use Rattle.sheet.specs.Inner.Counts.{tallies_of, CountedLists}
use Rattle.sheet.specs.Inner.Numbers.{count_by, numbers_by, summaries_by, lines_by}
use Rattle.sheet.specs.declared.counting.Counts.{Counts}
use Rattle.sheet.proofs.ColumnLaws.{column-is, number-count, number-taken, number-spoilt, number-unclaimed}
use Rattle.sheet.proofs.SheetTheorems.{lists-complete, total_is}

-- the tallies by the lines of each list are those of its values
pub tallies_are : (table input : List ℕ) → tallies_of (plan_of table) (list_lines input) ≡ list_tallies table (value_lists input)
unfolding tallies_of list_tallies value_lists
tallies_are table input = go (list_lines input)
  where
    go : (lists : List (List (List ℕ)))
        → map (λ (ls : List (List ℕ)). (count_of (plan_of table) (flat_map line_values ls)).tally) lists
        ≡ map (λ (values : List ℤ). (count_of (plan_of table) values).tally) (map (flat_map line_values) lists)
    go [] = refl
    go (ls ∷ lists) = ap (λ (ts : List Tally). (count_of (plan_of table) (flat_map line_values ls)).tally ∷ ts) (go lists)

-- an accepted table, no bad line, and the numbers of the lists written over d, which became x
module _ (table input d x : List ℕ) (accepted : table_verdict 4096 table ≡ passed) (good : ragged_line true true (length (dimensions table)) input ≡ 0)
    (c : Counts) (counted : CountedLists (plan_of table) input d c x) (room : length (list_lines input) * 67 ≤ length d) where
  abbrev ts : List Tally
  ts = tallies_of (plan_of table) (list_lines input)

  column : (r : ℕ) → r < 67 → (number : Tally → ℕ) → ((t : Tally) → length t.counts ≡ 64 → get_or (numbers_of t) r 0 ≡ number t)
      → column_of x c.lists r ≡ map number ts
  column r h number is = rw counted.lists_are (column-is (plan_of table) r h number is (list_lines input) d x counted.written room)

  numbers_are : (r : ℕ) → r < length (regions (gates table)) → numbers_by (regions (gates table)) x c.lists c.total r ≡ region_numbers table ts r
  unfolding numbers_by region_numbers count_by
  numbers_are r h =
      let a = passed-accepted 4096 table accepted in
      let few = a.rules.few in
      let p = parent-count 4096 table a (total ts) r h in
      rw (column r (omega (arith, few)) (count_in r) (number-count r (omega (arith, few))), counted.total_is, p)
      (sym (append_assoc (map (count_in r) ts) (count_in r (total ts) ∷ []) (share table (total ts) r)))

  summaries_are : summaries_by x c.lists c.total ≡ flat_map (summary_line ts) summaries
  unfolding summaries_by flat_map
  summaries_are =
      rw (
        column 64 (omega arith) (λ t. t.taken) number-taken,
        column 66 (omega arith) (λ t. t.unclaimed) number-unclaimed,
        column 65 (omega arith) (λ t. t.spoilt) number-spoilt,
        counted.total_is,
      )

  events_are : c.total.taken + c.total.spoilt ≡ event_total (length (dimensions table)) (value_lists input)
  events_are =
      let complete = lists-complete (length (dimensions table)) input good in
      sym (total_is table accepted (value_lists input) complete ∙ rw (← tallies_are table input, ← counted.total_is))

  pub sheet_written : lines_by table x c.lists c.total ≡ sheet_lines table (value_lists input)
  unfolding lines_by sheet_lines
  sheet_written =
      rw (
        lines_same (regions (gates table)) _ (region_numbers table ts) (length (regions (gates table))) numbers_are,
        summaries_are,
        events_are,
        tallies_are table input,
      )
