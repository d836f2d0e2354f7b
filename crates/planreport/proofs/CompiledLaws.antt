-- What compiling into 4,096 words answers is what is printed.
use mathlib.Core.Path.{◌≡◌, refl, sym, ap, ◌∙◌}
use mathlib.Core.Bool.{false}
use mathlib.Core.List.{List}
use Prim.Native.Nat.{ℕ, ◌≤◌}
use native.Mathlib.Omega.{arith}
use lib.Dec.{eqb}
use lib.IntN.{ℤ}
use lib.ListN.{length, take}
use Rattle.std.specs.Prelude.{Ok, Err}
use Rattle.text.specs.Output.{over}
use Rattle.text.proofs.OutputLaws.{over-length}
use Rattle.plans.specs.Refusals.{Verdict, passed}
use Rattle.plans.specs.Form.{check_of}
use Rattle.tables.specs.Refusals.{table_verdict}
use Rattle.tables.specs.Compile.{Compiling, plan_of, compile_of}
use Rattle.tables.proofs.CompileLaws.{compiled-verdict, compiled-plan, plan-passes}
use Rattle.tablecheck.specs.Answers.{table_refusal}
use Rattle.tablecheck.specs.declared.Refusal.{Refusal}
use Rattle.compiler.specs.Answers.{compiling}
use Rattle.compiler.specs.declared.Written.{Written}
use Rattle.compiler.proofs.VerdictLaws.{verdict-numbered, number-accepted, refused-number}
use Rattle.events.specs.Printing.{refused_line}
use Rattle.planreport.specs.PlanText.{plan_text}
use Rattle.planreport.specs.PlanReport.{plan_report_of}

-- ---- an answer of compiling

module _ (table : List ℕ) (slice after : List ℤ) (room : length slice ≡ 4096) where
  -- the words that compiling reported of an accepted table
  module _ (w : Written) (e : compiling (Ok w) after ≡ compile_of table slice) (z : (table_verdict 4096 table).number ≡ 0) where
    accepted : (table_verdict (length slice) table).number ≡ 0
    accepted = rw room z

    fits : length (plan_of table) ≤ length slice
    fits = (number-accepted (length slice) table accepted).slice_fits

    pub words_are : take w.words after ≡ plan_of table
    words_are =
        let k : w.words ≡ (compile_of table slice).words = ap (λ (x : Compiling). x.words) e in
        let s : after ≡ (compile_of table slice).slice = ap (λ (x : Compiling). x.slice) e in
        rw (k, s) (compiled-plan table slice (verdict-numbered (length slice) table accepted) fits)

    written_is : (w.words ≡ length (plan_of table)) × (after ≡ over (plan_of table) slice)
    unfolding compile_of
    written_is =
        let f = rw accepted at e in
        (ap (λ (x : Compiling). x.words) f, ap (λ (x : Compiling). x.slice) f)

    pub words_inside : w.words ≤ length after
    words_inside = omega (arith, written_is.0, ap length written_is.1, over-length (plan_of table) slice, fits)

    pub words-pass : check_of (take w.words after) ≡ passed
    words-pass = rw words_are (plan-passes (length slice) table (number-accepted (length slice) table accepted))

  -- the answer of compiling tells the table's verdict
  module _ {v : Verdict} {c : Compiling} (e : c ≡ compile_of table slice) (f : v ≡ c.verdict) where
    verdict_told : v ≡ table_verdict 4096 table
    verdict_told = f ∙ ap (λ (x : Compiling). x.verdict) e ∙ rw room at (compiled-verdict table slice)

  module _ (w : Written) (e : compiling (Ok w) after ≡ compile_of table slice) where
    table-accepted : (table_verdict 4096 table).number ≡ 0
    table-accepted = sym (ap (λ (x : Verdict). x.number) (verdict_told e refl))

    pub plan-held : (w.words ≤ length after) × (check_of (take w.words after) ≡ passed)
    plan-held = (words_inside w e table-accepted, words-pass w e table-accepted)

    pub plan-printed : plan_text (take w.words after) ≡ plan_report_of table
    unfolding plan_report_of
    plan-printed = rw (words_are w e table-accepted, table-accepted)

  pub refusal-printed : (r : Refusal) → compiling (Err r) after ≡ compile_of table slice
      → refused_line (table_refusal r).number (table_refusal r).place ≡ plan_report_of table
  unfolding plan_report_of
  refusal-printed r e =
      let v : table_refusal r ≡ table_verdict 4096 table = verdict_told e refl in
      let z : eqb (table_refusal r).number 0 ≡ false = refused-number table slice e in
      rw (← v, z)
