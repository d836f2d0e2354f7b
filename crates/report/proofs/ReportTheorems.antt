-- What a report of an accepted table is: of the right column line and good events their tally, and else the refusal that comes first.
use mathlib.Core.Path.{◌≡◌, sym, ◌∙◌}
use mathlib.Core.Bool.{true, false, ◌&&◌}
use mathlib.Core.Logic.{◌⊎◌, inl, inr}
use mathlib.Core.List.{List, [], ◌∷◌}
use Prim.Native.Nat.{ℕ, ◌+◌, ◌/◌, ◌%◌, ◌≤◌, ◌<◌}
use native.Mathlib.Nat.{mul-mod_left}
use native.Mathlib.Omega.{arith}
use lib.IntN.{ℤ}
use lib.ListN.{length}
use Rattle.plans.specs.Refusals.{passed}
use Rattle.plans.specs.Form.{width}
use Rattle.text.specs.Lines.{fields, lines}
use Rattle.text.proofs.TestLaws.{and_left, and_right, passed_or_failed, lt_or_ge}
use Rattle.counter.specs.Counting.{tally_of}
use Rattle.gates.specs.Gate.{regions}
use Rattle.tables.specs.Head.{dimensions, gates}
use Rattle.tables.specs.Refusals.{table_verdict}
use Rattle.tables.specs.Compile.{plan_of}
use Rattle.tables.specs.Columns.{first_differing, is_right, columns_verdict}
use Rattle.tables.specs.TableCount.{count_table_of}
use Rattle.tables.proofs.CompileLaws.{plan-passes}
use Rattle.tables.proofs.CountLaws.{plan-width, counted}
use Rattle.tables.proofs.Acceptance.{passed-accepted}
use Rattle.events.specs.Parting.{table_lines, has_events, events_ended, table_part, event_part}
use Rattle.events.specs.Listing.{list, ragged, bad_line, column_lines, list_part, events_of}
use Rattle.events.specs.Printing.{refused_line, unless_refused}
use Rattle.events.proofs.AnswerLaws.{events_open, events-ragged, events-listed}
use Rattle.events.proofs.ColumnLaws.{columns-not}
use Rattle.events.proofs.EventTheorems.{values-complete}
use Rattle.report.specs.Report.{tally_lines, printed, report_of}
use Rattle.report.proofs.InputLaws.{report_printed}
use Rattle.report.proofs.TableLaws.{table-printed}

-- the table is accepted, the column line of a list is right and its events are listed: the report has a line for each region, then `taken`, `spoilt`, and
-- refuses nothing
module _ (input : List ℕ) (short : length input ≤ 65536) (accepted : table_verdict 4096 (table_part input) ≡ passed)
    (right : columns_verdict (table_part input) (column_lines false input) ≡ passed) (values : List ℤ)
    (good : events_of true (length (dimensions (table_part input))) input ≡ list values) where
  complete : length values % width (plan_of (table_part input)) ≡ 0
  unfolding plan_of
  complete =
      let n = length (dimensions (table_part input)) in
      rw (plan-width n (regions (gates (table_part input))), values-complete true n input values good)
      (mul-mod_left (length (lines (list_part true (event_part input)))) n)

  pub report_tally : report_of input
      ≡ tally_lines (regions (gates (table_part input))) (tally_of (plan_of (table_part input)) values (length values / length (dimensions (table_part input))))
  unfolding printed plan_of
  report_tally =
      let t = table_part input in
      let n = length (dimensions t) in
      let w : width (plan_of t) ≡ n = plan-width n (regions (gates t)) in
      let c = counted (plan_of t) values (plan-passes 4096 t (passed-accepted 4096 t accepted)) complete in
      report_printed input short ∙ rw (good, accepted, right, c, w)

-- ---- an input with a list, which has one column line

module _ (input line : List ℕ) (headed : column_lines false input ≡ line ∷ []) where
  -- `events` is there with its LF
  opened : (has_events input ≡ true) × (events_ended input ≡ true)
  opened = go (passed_or_failed (has_events input && events_ended input))
    where
      go : ((has_events input && events_ended input) ≡ true) ⊎ ((has_events input && events_ended input) ≡ false)
          → (has_events input ≡ true) × (events_ended input ≡ true)
      go (inl e) = (and_left (has_events input) (events_ended input) e, and_right (has_events input) (events_ended input) e)
      go (inr e) =
          let q : [] ≡ line ∷ [] = sym (columns-not false input e) ∙ headed in
          let z : ◌≡◌ {A = ℕ} 0 1 = cc in
          absurd (omega arith)

  -- a ragged line is counted over the whole input: behind the lines of the table and the line `events` the column line is the first
  pub ragged-line : (n k : ℕ) → events_of true n input ≡ ragged k → k ≡ table_lines input + 1 + bad_line false true n (event_part input)
  ragged-line n k e = go (lt_or_ge 0 (bad_line false true n (event_part input)))
    where
      go : (0 < bad_line false true n (event_part input)) ⊎ (bad_line false true n (event_part input) ≤ 0)
          → k ≡ table_lines input + 1 + bad_line false true n (event_part input)
      go (inl l) =
          let q : ragged k ≡ ragged (table_lines input + 1 + bad_line false true n (event_part input)) =
          sym e ∙ events-ragged true n input opened.0 opened.1 l in
          cc
      go (inr l) =
          let q = sym e ∙ events-listed true n input opened.0 opened.1 l in
          let z : ◌≡◌ {A = ℕ} 0 1 = cc in
          absurd (omega arith)

  module _ (short : length input ≤ 65536) where
    -- what is printed of good events is what counting by the table with this line answers, into any 4,096 words: its refusal, or the lines of its tally
    pub report_counts : (values : List ℤ) → events_of true (length (dimensions (table_part input))) input ≡ list values
        → (slice : List ℤ) → length slice ≡ 4096
        → report_of input
        ≡ unless_refused (count_table_of (table_part input) line slice values).verdict
        (tally_lines (regions (gates (table_part input))) (count_table_of (table_part input) line slice values).tally)
    report_counts values good slice room = report_printed input short ∙ rw (good, headed) (table-printed (table_part input) line slice values room)

    module _ (accepted : table_verdict 4096 (table_part input) ≡ passed) where
      -- a wrong column line is refused before anything is asked of the events
      pub report_wrong-columns : is_right (table_part input) line ≡ false
          → report_of input ≡ refused_line 31 (first_differing (dimensions (table_part input)) (fields line))
      unfolding printed
      report_wrong-columns wrong = report_printed input short ∙ rw (headed, accepted, wrong)

      -- where it is right, the lowest bad line is refused, by its number in the whole input; the column line itself, where it has no LF
      pub report_bad-line : is_right (table_part input) line ≡ true → (k : ℕ) → events_of true (length (dimensions (table_part input))) input ≡ ragged k
          → (report_of input ≡ refused_line 23 k)
          × (k ≡ table_lines input + 1 + bad_line false true (length (dimensions (table_part input))) (event_part input))
      unfolding printed
      report_bad-line right k bad =
          (report_printed input short ∙ rw (headed, bad, accepted, right), ragged-line (length (dimensions (table_part input))) k bad)

-- `events` without LF is refused at its line, and no column line is asked for
pub report_open_events : (input : List ℕ) → length input ≤ 65536 → table_verdict 4096 (table_part input) ≡ passed
    → has_events input ≡ true → events_ended input ≡ false → report_of input ≡ refused_line 23 (table_lines input + 1)
unfolding printed
report_open_events input short accepted there unended =
    let none : (has_events input && events_ended input) ≡ false = rw (there, unended) in
    report_printed input short
    ∙ rw (accepted, columns-not false input none, events_open true (length (dimensions (table_part input))) input there unended)
