-- The plan of a table, printed and read again, counts the events as the table does.
use mathlib.Core.Path.{◌≡◌, refl, sym, ◌∙◌, ap}
use mathlib.Core.Bool.{true, false}
use mathlib.Core.Logic.{◌⊎◌, inl, inr}
use mathlib.Core.List.{List, [], ◌∷◌, ◌++◌, map}
use Prim.Native.Nat.{ℕ, ◌/◌, ◌%◌, ◌≤◌}
use native.Mathlib.Nat.{mul-mod_left}
use native.Mathlib.Omega.{arith}
use lib.IntN.{ℤ}
use lib.ListN.{length, length-append, length-drop}
use Rattle.text.specs.Bytes.{bytes, same, every}
use Rattle.text.specs.Lines.{fields, lines}
use Rattle.text.specs.Numbers.{is_negative, unsigned, is_positive, is_number}
use Rattle.text.proofs.TestLaws.{true≢false, passed_or_failed}
use Rattle.text.proofs.BytesLaws.{same_eq}
use Rattle.plans.specs.Words.{word, number}
use Rattle.plans.specs.Refusals.{passed}
use Rattle.plans.specs.Form.{width, step_count, check_of}
use Rattle.counter.specs.declared.Tally.{Tally}
use Rattle.counter.specs.Counting.{tally_of}
use Rattle.gates.specs.Gate.{regions}
use Rattle.tables.specs.Head.{dimensions, gates}
use Rattle.tables.specs.Steps.{plan_words}
use Rattle.tables.specs.Refusals.{table_verdict}
use Rattle.tables.specs.Compile.{plan_of}
use Rattle.tables.specs.Columns.{columns_verdict}
use Rattle.tables.proofs.CompileLaws.{plan-passes}
use Rattle.tables.proofs.CountLaws.{plan-width, counted}
use Rattle.tables.proofs.Acceptance.{passed-accepted}
use Rattle.events.specs.Parting.{table_part, event_part}
use Rattle.events.specs.Listing.{list, column_lines, list_part, events_of}
use Rattle.events.specs.Inner.Answers.{above_zero}
use Rattle.events.proofs.EventTheorems.{values-complete}
use Rattle.report.specs.Report.{tally_lines, report_of}
use Rattle.report.proofs.ReportTheorems.{report_tally}
use Rattle.runreport.specs.PlanReading.{fits_word, is_word, is_word_line}
use Rattle.runreport.specs.Running.{numbered_tally, ran_text, run_report_of}
use Rattle.runreport.proofs.RunLaws.{run_ran}
use Rattle.planreport.specs.PlanText.{words_line, plan_parts, plan_text}
use Rattle.planreport.specs.PlanReport.{plan_report_of}
use Rattle.planreport.proofs.TextLaws.{plan-few}
use Rattle.planreport.proofs.LengthLaws.{words-short, plan-length}
use Rattle.planreport.proofs.FittingLaws.{words-fit}
use Rattle.planreport.proofs.ReadBack.{AllPrintable, line-words, lines-printed, parts_printable, text-read, text_readable}
use Rattle.planreport.proofs.RejoinedLaws.{is_other, opened, rejoined}

-- ---- no line of words is the line `events`

events_no_words : is_word_line (bytes "events") ≡ false
unfolding is_word_line is_word fields is_number same is_positive unsigned is_negative
events_no_words = refl

lines_other : (wss : List (List ℤ)) → AllPrintable wss → every is_other (map words_line wss) ≡ true
lines_other [] g = refl
lines_other (ws ∷ wss) g = go (passed_or_failed (same (bytes "events") (words_line ws))) (lines_other wss g.1)
  where
    go : (same (bytes "events") (words_line ws) ≡ true) ⊎ (same (bytes "events") (words_line ws) ≡ false)
        → every is_other (map words_line wss) ≡ true → every is_other (map words_line (ws ∷ wss)) ≡ true
    go (inl e) r = absurd (true≢false (sym (line-words ws g.0) ∙ ap is_word_line (sym (same_eq (bytes "events") (words_line ws) e)) ∙ events_no_words))
    go (inr e) r = rw e r

-- ---- the plan's text in the table's place

-- `gatecount` takes a column line behind `events` and `gaterun` takes none, so what is run is the plan's text, the line `events`, and the lines of events
-- behind the column line; of an input with no list there are none
abbrev pub ran_input : List ℕ → List ℕ
ran_input input = plan_report_of (table_part input) ++ opened (list_part true (event_part input))

module _ (input : List ℕ) (short : length input ≤ 65536) (accepted : table_verdict 4096 (table_part input) ≡ passed) (values : List ℤ)
    (good : events_of true (length (dimensions (table_part input))) input ≡ list values) where
  passes : check_of (plan_of (table_part input)) ≡ passed
  passes = plan-passes 4096 (table_part input) (passed-accepted 4096 (table_part input) accepted)

  fits : every fits_word (plan_of (table_part input)) ≡ true
  fits = words-fit (plan_of (table_part input)) passes

  width_same : width (plan_of (table_part input)) ≡ length (dimensions (table_part input))
  unfolding plan_of
  width_same = plan-width (length (dimensions (table_part input))) (regions (gates (table_part input)))

  count_same : step_count (plan_of (table_part input)) ≡ length (regions (gates (table_part input)))
  unfolding plan_of step_count plan_words word number
  count_same = refl

  ran_is : ran_input input ≡ plan_text (plan_of (table_part input)) ++ opened (list_part true (event_part input))
  unfolding plan_report_of
  ran_is = rw accepted

  ran_short : length (plan_text (plan_of (table_part input)) ++ opened (list_part true (event_part input))) ≤ 131072
  unfolding list_part event_part
  ran_short =
      let p = plan_of (table_part input) in
      let few = plan-few p passes in
      let long = plan-length 12 p passes (words-short p fits) in
      simp (length-append, length-drop) (omega arith)

  ran_parted : (table_part (plan_text (plan_of (table_part input)) ++ opened (list_part true (event_part input))) ≡ plan_text (plan_of (table_part input)))
      × (events_of false (length (dimensions (table_part input))) (plan_text (plan_of (table_part input)) ++ opened (list_part true (event_part input)))
      ≡ list values)
  unfolding plan_text
  ran_parted =
      let p = plan_of (table_part input) in
      let parts = plan_parts p in
      let g = parts_printable p fits passes in
      rejoined (map words_line parts) (lines-printed parts g) (lines_other parts g) (length (dimensions (table_part input))) input values good

  complete : length values % width (plan_of (table_part input)) ≡ 0
  complete =
      let n = length (dimensions (table_part input)) in
      rw (width_same, values-complete true n input values good) (mul-mod_left (length (lines (list_part true (event_part input)))) n)

  pub run-tally : run_report_of (ran_input input)
      ≡ numbered_tally (length (regions (gates (table_part input))))
      (tally_of (plan_of (table_part input)) values (length values / length (dimensions (table_part input))))
  unfolding ran_text
  run-tally =
      let p = plan_of (table_part input) in
      let whole = plan_text p ++ opened (list_part true (event_part input)) in
      let read = run_ran whole ran_short (sym ran_parted.0) (ap above_zero (sym (text_readable p fits passes))) refl p (sym (text-read p fits passes)) in
      let events : events_of false (width p) whole ≡ list values = ap (λ (n : ℕ). events_of false n whole) width_same ∙ ran_parted.1 in
      let count = counted p values passes complete in
      ap run_report_of ran_is ∙ sym read ∙ rw (events, passes, count, count_same, width_same)

  -- ---- one tally, printed by name and by number

  -- where the column line of a list is right
  pub same-counts : columns_verdict (table_part input) (column_lines false input) ≡ passed → (t : Tally)
      × (report_of input ≡ tally_lines (regions (gates (table_part input))) t)
      × (run_report_of (ran_input input) ≡ numbered_tally (length (regions (gates (table_part input)))) t)
  same-counts right =
      let t = tally_of (plan_of (table_part input)) values (length values / length (dimensions (table_part input))) in
      (t, report_tally input short accepted right values good, run-tally)
