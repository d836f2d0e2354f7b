-- Counting by a table: refused with the table, with the list's column line or with the list, or by the table's plan.
use mathlib.Core.Path.{◌≡◌, ◌∙◌}
use mathlib.Core.Bool.{true, false, cond}
use mathlib.Core.Logic.{◌⊎◌, inl, inr}
use mathlib.Core.List.{List, [], ◌∷◌}
use Prim.Native.Nat.{ℕ, ◌%◌, ◌≤◌}
use native.Mathlib.Omega.{arith}
use lib.Dec.{eqb}
use lib.IntN.{ℤ}
use lib.ListN.{length}
use borrow.Author.Tests.{eqb-true, ne_eqb}
use Rattle.plans.specs.Refusals.{Verdict, passed, refused}
use Rattle.plans.specs.Form.{width, check_of}
use Rattle.text.proofs.TestLaws.{true≢false, passed_or_failed}
use Rattle.text.specs.Lines.{fields}
use Rattle.counter.specs.Counting.{count_passed, Counting, count_for, count_of}
use Rattle.gates.specs.Gate.{regions}
use Rattle.tables.specs.Head.{dimensions, gates}
use Rattle.tables.specs.Refusals.{table_verdict}
use Rattle.tables.specs.Compile.{plan_of, Compiling, compile_of}
use Rattle.tables.specs.Columns.{first_differing, is_right, columns_verdict}
use Rattle.tables.specs.TableCount.{TableCounting, lent, uncounted, counted_by, count_table_of}
use Rattle.tables.proofs.Acceptance.{Accepted, passed-accepted}
use Rattle.tables.proofs.CountLaws.{plan-width, counted}
use Rattle.tables.proofs.CompileLaws.{compiled-verdict, compiled-words, compiled-plan, head-width, plan-passes}
use Rattle.tables.proofs.ColumnLaws.{right-passes, wrong-refused}

module _ (text columns : List ℕ) (slice values : List ℤ) where
  pub table-refused : eqb (table_verdict (length slice) text).number 0 ≡ false
      → count_table_of text columns slice values ≡ uncounted slice (table_verdict (length slice) text)
  unfolding count_table_of
  table-refused e = rw (compiled-verdict text slice, e)

  -- ---- an accepted table

  module _ (e : table_verdict (length slice) text ≡ passed) where
    accepted : Accepted (length slice) text
    accepted = passed-accepted (length slice) text e

    lent-plan : lent (compile_of text slice).words (compile_of text slice).slice ≡ plan_of text
    lent-plan = compiled-plan text slice e accepted.slice_fits

    -- a wrong column line is refused at the first field that differs
    pub columns-refused : is_right text columns ≡ false
        → count_table_of text columns slice values ≡ uncounted slice (refused 31 (first_differing (dimensions text) (fields columns)))
    unfolding count_table_of
    columns-refused wrong = rw (compiled-verdict text slice, e, wrong-refused text columns wrong)

    pub some-dimensions : 1 ≤ length (dimensions text)
    some-dimensions = (head-width text accepted.head).0

    its_width : width (plan_of text) ≡ length (dimensions text)
    unfolding plan_of
    its_width = plan-width (length (dimensions text)) (regions (gates text))

    -- ---- the right column line

    module _ (right : is_right text columns ≡ true) where
      pub table_counted : count_table_of text columns slice values ≡ counted_by slice (compile_of text slice) (count_of (plan_of text) values)
      unfolding count_table_of
      table_counted = rw (compiled-verdict text slice, e, right-passes text columns right, lent-plan)

      -- complete events are counted, by the words lent
      pub complete-counted : length values % length (dimensions text) ≡ 0 → count_table_of text columns slice values ≡ record {
        verdict = passed;
        words = (compile_of text slice).words;
        regions = (compile_of text slice).regions;
        tally = (count_of (lent (compile_of text slice).words (compile_of text slice).slice) values).tally;
        slice = (compile_of text slice).slice;
      }
      complete-counted h =
          let c = counted (plan_of text) values (plan-passes (length slice) text accepted) (rw its_width h) in
          table_counted ∙ rw (lent-plan, c)

      -- others are refused
      pub ragged-refused : (length values % length (dimensions text) ≡ 0 → ⊥)
          → count_table_of text columns slice values ≡ uncounted slice (refused 23 (length values))
      unfolding count_for count_passed
      ragged-refused h =
          let p : check_of (plan_of text) ≡ passed = plan-passes (length slice) text accepted in
          let r = ne_eqb (length values % length (dimensions text)) 0 h in
          table_counted ∙ rw (p, its_width, r)

-- ---- what the answer says of the table

-- c is what compiling gave, v what testing the column line did, k what counting did
module _ (slice : List ℤ) (c : Compiling) (v : Verdict) (k : Counting) where
  abbrev together : TableCounting
  together =
      cond (eqb c.verdict.number 0)
      (cond (eqb v.number 0) (counted_by slice c k) (uncounted slice v))
      (uncounted slice c.verdict)

  abbrev Tested : Verdict → Type 0
  Tested w = (eqb w.number 0 ≡ true) ⊎ (eqb w.number 0 ≡ false)

  -- what reports no words is refused, where compiling with no refusal reports some
  no_words : (c.verdict.number ≡ 0 → 2 ≤ c.words) → together.words ≡ 0 → eqb together.verdict.number 0 ≡ false
  no_words some_words e =
      go (passed_or_failed (eqb c.verdict.number 0)) (passed_or_failed (eqb v.number 0)) (passed_or_failed (eqb k.verdict.number 0))
    where
      go : Tested c.verdict → Tested v → Tested k.verdict → eqb together.verdict.number 0 ≡ false
      go (inl t) (inl s) (inl u) = let w : c.words ≡ 0 = rw (t, s, u) at e in absurd (omega (arith, some_words (eqb-true c.verdict.number 0 t)))
      go (inl t) (inl s) (inr u) = rw (t, s, u) u
      go (inl t) (inr s) _ = rw (t, s) s
      go (inr t) _ _ = rw t t

  -- what is not refused has a right column line and the regions that compiling reported
  not-refused : together.verdict ≡ passed → (c.verdict.number ≡ 0) × (together.regions ≡ c.regions) × (v.number ≡ 0)
  not-refused e =
      go (passed_or_failed (eqb c.verdict.number 0)) (passed_or_failed (eqb v.number 0)) (passed_or_failed (eqb k.verdict.number 0))
    where
      go : Tested c.verdict → Tested v → Tested k.verdict → (c.verdict.number ≡ 0) × (together.regions ≡ c.regions) × (v.number ≡ 0)
      go (inl t) (inl s) (inl u) = (eqb-true c.verdict.number 0 t, rw (t, s, u), eqb-true v.number 0 s)
      go (inl t) (inl s) (inr u) = let w : k.verdict ≡ passed = rw (t, s, u) at e in absurd (true≢false (rw w at u))
      go (inl t) (inr s) _ = let w : v ≡ passed = rw (t, s) at e in absurd (true≢false (rw w at s))
      go (inr t) _ _ = let w : c.verdict ≡ passed = rw t at e in absurd (true≢false (rw w at t))

module _ (text columns : List ℕ) (slice values : List ℤ) where
  pub uncounted-number : (count_table_of text columns slice values).words ≡ 0 → eqb (count_table_of text columns slice values).verdict.number 0 ≡ false
  unfolding count_table_of
  uncounted-number e =
      let c = compile_of text slice in
      no_words slice c (columns_verdict text (columns ∷ [])) (count_of (lent c.words c.slice) values)
      (λ z. compiled-words text slice (rw (compiled-verdict text slice) at z)) e

  -- a column line of which no refusal is said is right
  right_of : (columns_verdict text (columns ∷ [])).number ≡ 0 → is_right text columns ≡ true
  right_of z = go (passed_or_failed (is_right text columns))
    where
      go : (is_right text columns ≡ true) ⊎ (is_right text columns ≡ false) → is_right text columns ≡ true
      go (inl e) = e
      go (inr e) = let w : ◌≡◌ {A = ℕ} 31 0 = rw (wrong-refused text columns e) at z in absurd (omega arith)

  pub counted-accepted : (count_table_of text columns slice values).verdict ≡ passed
      → ((table_verdict (length slice) text).number ≡ 0) × ((count_table_of text columns slice values).regions ≡ (compile_of text slice).regions)
      × (is_right text columns ≡ true)
  unfolding count_table_of
  counted-accepted e =
      let c = compile_of text slice in
      let w = not-refused slice c (columns_verdict text (columns ∷ [])) (count_of (lent c.words c.slice) values) e in
      (rw (compiled-verdict text slice) at w.0, w.1, right_of w.2)
