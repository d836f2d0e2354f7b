-- What compiling and counting answered is counting by the table, and keeps demand 3.
use mathlib.Core.Path.{◌≡◌, refl, sym, ap, ◌∙◌}
use mathlib.Core.Bool.{true, false}
use mathlib.Core.List.{List, [], ◌∷◌}
use Prim.Native.Nat.{ℕ, ◌%◌, ◌≤◌}
use native.Mathlib.Omega.{arith}
use lib.Dec.{eqb}
use lib.IntN.{ℤ}
use lib.ListN.{length, take}
use Rattle.std.specs.Prelude.{Result, Ok, Err, is_err}
use borrow.Author.Tests.{eqb-true, ne_eqb}
use Rattle.plans.specs.Refusals.{Verdict, passed, refused, refusal}
use Rattle.plans.specs.declared.Refusal.{Refusal}
use Rattle.plans.specs.declared.Refusal.TheVariants.{LongPlan, Malformed, Ragged, Spoilt}
use Rattle.text.proofs.TestLaws.{true≢false}
use Rattle.counter.specs.Counting.{Counting, count_of}
use Rattle.tables.specs.Head.{dimensions}
use Rattle.tables.specs.Refusals.{table_verdict}
use Rattle.tables.specs.Compile.{plan_of, Compiling, uncompiled, compile_of}
use Rattle.tables.specs.Columns.{is_right, columns_verdict}
use Rattle.tables.specs.TableCount.{TableCounting, uncounted, count_table_of}
use Rattle.tables.specs.Demand.{KeepsDemand3}
use Rattle.tables.proofs.ListLaws.{not-not, unless}
use Rattle.tables.proofs.ColumnLaws.{right-passes, wrong-refused}
use Rattle.tables.proofs.ColumnTheorems.{verdict-right}
use Rattle.plans.specs.Form.{width}
use Rattle.gates.specs.Gate.{regions}
use Rattle.tables.specs.Head.{gates}
use Rattle.tables.proofs.Acceptance.{passed-accepted}
use Rattle.tables.proofs.CountLaws.{plan-width, counted}
use Rattle.tables.proofs.CompileLaws.{compiled-verdict, compiled-plan, plan-passes}
use Rattle.tables.proofs.TableCountLaws.{table-refused, columns-refused, some-dimensions, complete-counted, ragged-refused}
use Rattle.tables.proofs.Demand.{demand_3}
use Rattle.heads.specs.Answers.{columns_said}
use Rattle.heads.specs.declared.WrongColumns.{WrongColumns}
use Rattle.compiler.proofs.VerdictLaws.{words-fit, length-kept, refused-number, compile_refused}
use Rattle.counttable.specs.Inner.Ragged.{ragged}

-- what is refused does not pass
pub never : (r : Refusal) → refusal r ≡ passed → ⊥
never LongPlan e = let z : ◌≡◌ {A = ℕ} 21 0 = ap (λ (v : Verdict). v.number) e in omega arith
never (Malformed place) e = let z : ◌≡◌ {A = ℕ} 22 0 = ap (λ (v : Verdict). v.number) e in omega arith
never (Ragged m) e = let z : ◌≡◌ {A = ℕ} 23 0 = ap (λ (v : Verdict). v.number) e in omega arith
never (Spoilt place) e = let z : ◌≡◌ {A = ℕ} 24 0 = ap (λ (v : Verdict). v.number) e in omega arith

its_width : (text : List ℕ) → width (plan_of text) ≡ length (dimensions text)
unfolding plan_of
its_width text = plan-width (length (dimensions text)) (regions (gates text))

-- a column line that was tested
pub right-not : (t : Result Unit WrongColumns) (x : Unit) → t ≡ Ok x → is_err t ≡ true → ⊥
right-not (Ok y) x e f = cc
right-not (Err w) x e f = cc

pub right-said : (t : Result Unit WrongColumns) → is_err t ≡ false → columns_said t ≡ passed
right-said (Ok x) f = refl
right-said (Err w) f = absurd (cc)

-- ---- complete events, or not

module _ (n m : ℕ) (some : 1 ≤ n) where
  n-some : eqb n 0 ≡ false
  n-some = ne_eqb n 0 (λ e. omega arith)

  whole : ragged n m ≡ false → m % n ≡ 0
  whole h = eqb-true (m % n) 0 (not-not (eqb (m % n) 0) (rw n-some at h))

  parted : ragged n m ≡ true → m % n ≡ 0 → ⊥
  parted h e = let f : false ≡ true = rw (n-some, e) at h in true≢false (sym f)

module _ (text columns : List ℕ) (slice values : List ℤ) where
  -- what is promised of an answer
  abbrev pub Delivered : TableCounting → Type 0
  Delivered x = record {
    plan_after : x ≡ count_table_of text columns slice values;
    keeps_demand3 : KeepsDemand3 text columns slice values x;
  }

  delivered : {x : TableCounting} → x ≡ count_table_of text columns slice values → Delivered x
  delivered e = record { plan_after = e; keeps_demand3 = rw e (demand_3 text columns slice values) }

  -- ---- by what testing the column line answered

  right-line : columns_verdict text (columns ∷ []) ≡ passed → is_right text columns ≡ true
  right-line = (verdict-right text columns).0

  wrong-line : {field : ℕ} → refused 31 field ≡ columns_verdict text (columns ∷ []) → is_right text columns ≡ false
  wrong-line said =
      unless (is_right text columns) (λ e.
      let z : ◌≡◌ {A = ℕ} 31 0 = ap (λ (v : Verdict). v.number) (said ∙ right-passes text columns e) in
      omega arith)

  -- ---- by the table's verdict, where the column line is wrong or the list is ragged

  pub refused-first : {v : Verdict} → v ≡ table_verdict (length slice) text → false ≡ eqb (table_verdict (length slice) text).number 0
      → Delivered (uncounted slice v)
  refused-first v f = delivered (sym (table-refused text columns slice values (sym f) ∙ rw v))

  module _ (v : passed ≡ table_verdict (length slice) text) where
    pub columns-wrong : {field : ℕ} → refused 31 field ≡ columns_verdict text (columns ∷ []) → Delivered (uncounted slice (refused 31 field))
    columns-wrong said =
        let z = wrong-line said in
        delivered (sym (columns-refused text columns slice values (sym v) z ∙ ap (uncounted slice) (sym (said ∙ wrong-refused text columns z))))

    pub list-ragged : passed ≡ columns_verdict text (columns ∷ []) → {n : ℕ} → n ≡ length (dimensions text) → true ≡ ragged n (length values)
        → Delivered (uncounted slice (refused 23 (length values)))
    list-ragged said d q =
        let g : ragged (length (dimensions text)) (length values) ≡ true = rw d at (sym q) in
        delivered (sym (ragged-refused text columns slice values (sym v) (right-line (sym said))
        (parted (length (dimensions text)) (length values) (some-dimensions text columns slice values (sym v)) g)))

  -- ---- by what compiling answered

  module _ {words number : ℕ} {after : List ℤ}
      (h : ◌≡◌ {A = Compiling} (record { verdict = passed; words = words; regions = number; slice = after }) (compile_of text slice)) where
    pub words_inside : words ≤ length after
    words_inside =
        let a : words ≡ (compile_of text slice).words = ap (λ (c : Compiling). c.words) h in
        let b : after ≡ (compile_of text slice).slice = ap (λ (c : Compiling). c.slice) h in
        omega (arith, words-fit text slice, length-kept text slice, ap length b)

    -- of a right column line and a list of complete events
    module _ (said : passed ≡ columns_verdict text (columns ∷ [])) {n : ℕ} (d : n ≡ length (dimensions text)) (q : false ≡ ragged n (length values))
        {k : Counting} (f : k ≡ count_of (take words after) values) where
      its-verdict : table_verdict (length slice) text ≡ passed
      its-verdict = sym (ap (λ (x : Compiling). x.verdict) h ∙ compiled-verdict text slice)

      complete : length values % length (dimensions text) ≡ 0
      complete =
          whole (length (dimensions text)) (length values) (some-dimensions text columns slice values its-verdict) (rw d at (sym q))

      -- the plan that was written passes, so that complete events are counted
      pub counted-well : k.verdict ≡ passed
      counted-well =
          let a = passed-accepted (length slice) text its-verdict in
          let p : take words after ≡ plan_of text = rw (← h) at (compiled-plan text slice its-verdict a.slice_fits) in
          let c = counted (plan_of text) values (plan-passes (length slice) text a) (rw (its_width text) complete) in
          let g : k ≡ count_of (plan_of text) values = rw p at f in
          ap (λ (x : Counting). x.verdict) (g ∙ c)

      pub counted_by_lem : Delivered (record { verdict = passed; words = words; regions = number; tally = k.tally; slice = after })
      counted_by_lem =
          let c = complete-counted text columns slice values its-verdict (right-line (sym said)) complete in
          delivered (sym (rw (← h, ← f) at c))

  pub counted-not : {v : Verdict} {after : List ℤ} → uncompiled after v ≡ compile_of text slice → Delivered (uncounted after v)
  counted-not {v} {after} k =
      let z : eqb v.number 0 ≡ false = refused-number text slice k in
      let e : v ≡ table_verdict (length slice) text = ap (λ (x : Compiling). x.verdict) k ∙ compiled-verdict text slice in
      let y : eqb (table_verdict (length slice) text).number 0 ≡ false = rw (← e) z in
      let s : after ≡ slice = ap (λ (x : Compiling). x.slice) (k ∙ sym (compile_refused text slice (e, sym y))) in
      delivered (sym (table-refused text columns slice values y ∙ rw (← e, ← s)))
