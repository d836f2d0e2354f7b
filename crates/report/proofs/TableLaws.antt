-- Counting by a table with room for 4,096 words, and testing the column line: what is answered is what is printed.
use mathlib.Core.Path.{◌≡◌, refl, sym, ap, ◌∙◌}
use mathlib.Core.Bool.{Bool, true, false, cond}
use mathlib.Core.Logic.{◌⊎◌, inl, inr}
use mathlib.Core.List.{List, [], ◌∷◌}
use Prim.Native.Nat.{ℕ}
use lib.Dec.{eqb}
use lib.IntN.{ℤ}
use lib.ListN.{length}
use borrow.Author.Tests.{eqb-true}
use Rattle.plans.specs.Refusals.{Verdict, passed}
use Rattle.text.proofs.TestLaws.{passed_or_failed}
use Rattle.counter.specs.declared.Tally.{Tally}
use Rattle.counter.specs.Counting.{Counting, count_of}
use Rattle.gates.specs.Gate.{Region, regions}
use Rattle.tables.specs.Head.{gates}
use Rattle.tables.specs.Refusals.{table_verdict}
use Rattle.tables.specs.Compile.{Compiling, plan_of, compile_of}
use Rattle.tables.specs.Columns.{is_right, columns_verdict}
use Rattle.tables.specs.TableCount.{TableCounting, uncounted, counted_by, count_table_of}
use Rattle.tables.proofs.CompileLaws.{compiled-regions}
use Rattle.tables.proofs.TableCountLaws.{table-refused, columns-refused, table_counted, uncounted-number, counted-accepted}
use Rattle.compiler.proofs.VerdictLaws.{verdict-numbered}
use Rattle.events.specs.Listing.{list, ragged}
use Rattle.events.specs.Printing.{refused_line, unless_refused}
use Rattle.report.specs.Report.{tally_lines, counted_lines, printed}

-- ---- the definitions

-- verdict and tally
abbrev shown : TableCounting → Counting
shown t = record { verdict = t.verdict; tally = t.tally }

counted-shown : (rs : List Region) (slice : List ℤ) (c : Compiling) (k : Counting) → counted_lines rs k ≡ counted_lines rs (shown (counted_by slice c k))
counted-shown rs slice c k = go (eqb k.verdict.number 0) refl
  where
    go : (b : Bool) → eqb k.verdict.number 0 ≡ b
        → cond b (tally_lines rs k.tally) (refused_line k.verdict.number k.verdict.place)
        ≡ counted_lines rs
        (shown (cond b (record { verdict = k.verdict; words = c.words; regions = c.regions; tally = k.tally; slice = c.slice })
        (uncounted slice k.verdict)))
    go true e = rw e
    go false e = rw e

module _ (text columns : List ℕ) (slice values : List ℤ) (room : length slice ≡ 4096) where
  pub table-printed : printed text (columns ∷ []) (list values) ≡ counted_lines (regions (gates text)) (shown (count_table_of text columns slice values))
  unfolding printed
  table-printed = go (passed_or_failed (eqb (table_verdict 4096 text).number 0)) (passed_or_failed (is_right text columns))
    where
      numbered : eqb (table_verdict 4096 text).number 0 ≡ true → table_verdict 4096 text ≡ passed
      numbered e = verdict-numbered 4096 text (eqb-true (table_verdict 4096 text).number 0 e)

      go : (eqb (table_verdict 4096 text).number 0 ≡ true) ⊎ (eqb (table_verdict 4096 text).number 0 ≡ false)
          → (is_right text columns ≡ true) ⊎ (is_right text columns ≡ false)
          → unless_refused (table_verdict 4096 text)
          (unless_refused (columns_verdict text (columns ∷ [])) (counted_lines (regions (gates text)) (count_of (plan_of text) values)))
          ≡ counted_lines (regions (gates text)) (shown (count_table_of text columns slice values))
      go (inl e) (inl r) =
          let p = numbered e in
          let k = table_counted text columns slice values (rw room p) r in
          rw (p, r, k) (counted-shown (regions (gates text)) slice (compile_of text slice) (count_of (plan_of text) values))
      go (inl e) (inr r) =
          let p = numbered e in
          let k = columns-refused text columns slice values (rw room p) r in
          rw (p, r, k)
      go (inr e) r =
          let k : count_table_of text columns slice values ≡ uncounted slice (table_verdict 4096 text) =
          rw room at (table-refused text columns slice values (rw room e)) in
          rw (k, e)

  -- ---- the answer of `count_table`, with the slice afterwards

  module _ {words m : ℕ} {tally : Tally} {after : List ℤ}
      (e : ◌≡◌ {A = TableCounting} (record { verdict = passed; words = words; regions = m; tally = tally; slice = after })
      (count_table_of text columns slice values)) where
    pub counted_prints : printed text (columns ∷ []) (list values) ≡ tally_lines (regions (gates text)) tally
    counted_prints = table-printed ∙ rw (← e)

    pub counted-regions : ((table_verdict 4096 text).number ≡ 0) × (m ≡ length (regions (gates text)))
    counted-regions =
        let a = counted-accepted text columns slice values (sym (ap (λ (x : TableCounting). x.verdict) e)) in
        let z = verdict-numbered (length slice) text a.0 in
        (rw room at a.0, ap (λ (x : TableCounting). x.regions) e ∙ a.1 ∙ compiled-regions text slice z)

  pub refused_prints : {v : Verdict} {after : List ℤ} → uncounted after v ≡ count_table_of text columns slice values
      → printed text (columns ∷ []) (list values) ≡ refused_line v.number v.place
  refused_prints {v} e =
      let z : eqb v.number 0 ≡ false = rw (← e) at (uncounted-number text columns slice values (rw (← e))) in
      table-printed ∙ rw (← e, z)

-- ---- a ragged line

module _ (text columns : List ℕ) (line : ℕ) where
  pub ragged_prints : passed ≡ table_verdict 4096 text
      → printed text (columns ∷ []) (ragged line) ≡ unless_refused (columns_verdict text (columns ∷ [])) (refused_line 23 line)
  unfolding printed
  ragged_prints e = rw (← e)

  pub table-first : {v : Verdict} → v ≡ table_verdict 4096 text → false ≡ eqb (table_verdict 4096 text).number 0
      → printed text (columns ∷ []) (ragged line) ≡ refused_line v.number v.place
  unfolding printed
  table-first e f = rw (← f, e)

  -- by what testing the column line said: where it is wrong, 31 comes before the ragged line
  pub tested : {v : Verdict} → v ≡ columns_verdict text (columns ∷ [])
      → unless_refused (columns_verdict text (columns ∷ [])) (refused_line 23 line) ≡ unless_refused v (refused_line 23 line)
  tested e = ap (λ (x : Verdict). unless_refused x (refused_line 23 line)) (sym e)
