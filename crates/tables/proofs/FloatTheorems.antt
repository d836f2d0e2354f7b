-- Floats of an earlier issue and the plans of accepted tables: refused at the lowest new word and never counted, or counted as today and by demand 3.
use mathlib.Core.Path.{◌≡◌, refl, sym, ap, ◌∙◌}
use mathlib.Core.Bool.{Bool, true, false, not, cond}
use mathlib.Core.Logic.{◌⊎◌, inl, inr, ⊎_elim}
use mathlib.Core.List.Memᴰ
use mathlib.Core.List.Memᴰ.{head as here}
use mathlib.Core.List.Memᴰ.{tail as there}
use mathlib.Core.List.Permᴰ
use mathlib.Core.List.{List, [], ◌∷◌, ◌++◌, append_assoc}
use Prim.Native.Nat.{ℕ, ◌+◌, ◌%◌, ◌<◌, ◌≤◌}
use native.Mathlib.Omega.{arith}
use lib.Dec.{ltb, eqb}
use lib.IntN.{ℤ, pos}
use lib.ListN.{length, length-append}
use borrow.Author.Tests.{lt-ltb, le-ltb, eq-eqb}
use Rattle.plans.specs.Bits.{has_bit, with_bit}
use Rattle.plans.specs.Refusals.{passed}
use Rattle.plans.specs.Words.{word, number}
use Rattle.plans.specs.Form.{Float, first, kind_at, step_count, check_for, check_of}
use Rattle.plans.specs.NewWords.{new_step_word, new_word, old_word, lowest_new, holds_new, NewToFirst}
use Rattle.plans.proofs.BitLaws.{no_bit}
use Rattle.plans.proofs.IndexLaws.{clash, and_right-false, first-none}
use Rattle.plans.proofs.FloatTheorems.{KnowsLess, first_less, lowest_is-new, nothing-before, holds-some, new-refused, old-passes, first-at-new, unknown_to-first}
use Rattle.counter.specs.Counting.{count_for, count_of}
use Rattle.counter.proofs.FloatTheorems.{counts-as-today, new-uncounted, old-counted}
use Rattle.gates.specs.Gate.{Region, regions}
use Rattle.tables.specs.Table.{◌∈◌, nth_region}
use Rattle.tables.specs.Head.{dimensions, gates, LineOrder, reordered}
use Rattle.tables.specs.Steps.{shape_kind, step_words, steps_words, order, plan_words}
use Rattle.tables.specs.Refusals.{table_verdict}
use Rattle.tables.specs.Compile.{plan_of, Compiling, compile_of}
use Rattle.tables.specs.Columns.{is_right}
use Rattle.tables.specs.TableCount.{TableCounting, lent, count_table_of}
use Rattle.tables.specs.Floats.{KnownTo, RefusedAsNew, FirstFloatRefuses}
use Rattle.tables.specs.Demand.{dims, Demand3For, Demand3}
use Rattle.tables.proofs.NameLaws.{region_in_lem, region-of}
use Rattle.tables.proofs.OrderLaws.{Orderly, Ordered, with_cases, after, all_written, order-length, order-ordered}
use Rattle.tables.proofs.GateLaws.{orderly, moved-region}
use Rattle.tables.proofs.StepLaws.{kind-is, next-is}
use Rattle.tables.proofs.Acceptance.{Accepted, passed-accepted}
use Rattle.tables.proofs.CompileLaws.{compiled-verdict, compiled-plan, plan-passes}
use Rattle.tables.proofs.OrderedAgain.{ordered-again}
use Rattle.tables.proofs.Demand.{demand_3}

-- ---- the words of a plan that are new

module _ (f : Float) (rs : List Region) where
  abbrev Known : ℕ → Type 0
  Known r = f.knows (shape_kind (nth_region rs r).shape) ≡ true

  -- none, where the float knows the kind of each step
  steps-old : (o : List ℕ) (before : List ℤ) → ((r : ℕ) → r ∈ o → Known r) → (i : ℕ)
      → new_step_word f (length o) (before ++ steps_words rs o) (length before) i ≡ false
  unfolding new_step_word
  steps-old [] before known i = refl
  steps-old (r ∷ o) before known i =
      rw (kind-is rs r before (steps_words rs o), known r (here refl), and_right-false (eqb i (length before)), next-is rs r before (steps_words rs o))
      (go (ltb i (length (before ++ step_words rs r))) (later (steps-old o (before ++ step_words rs r) (λ s m. known s (there m)) i)))
    where
      later : new_step_word f (length o) ((before ++ step_words rs r) ++ steps_words rs o) (length (before ++ step_words rs r)) i ≡ false
          → new_step_word f (length o) (before ++ (step_words rs r ++ steps_words rs o)) (length (before ++ step_words rs r)) i ≡ false
      later e = rw (append_assoc before (step_words rs r) (steps_words rs o)) at e

      go : (b : Bool) {x : Bool} → x ≡ false → cond b false x ≡ false
      go true e = refl
      go false e = e

  -- one, where it does not know the kind of some step: that step's first word
  abbrev NewAt : List ℕ → List ℤ → Type 0
  NewAt o before =
      (i : ℕ) × (length before ≤ i) × (i < length (before ++ steps_words rs o))
      × (new_step_word f (length o) (before ++ steps_words rs o) (length before) i ≡ true)

  module _ (x : ℕ) (o : List ℕ) (before : List ℤ) where
    abbrev tail : List ℤ
    tail = steps_words rs o

    at_head : f.knows (shape_kind (nth_region rs x).shape) ≡ false → NewAt (x ∷ o) before
    unfolding new_step_word step_words
    at_head e = (
      length before,
      omega arith,
      simp length-append (omega arith),
      rw (
        kind-is rs x before tail,
        e,
        next-is rs x before tail,
        lt-ltb (length before) (length (before ++ step_words rs x)) (simp length-append (omega arith)),
        eq-eqb (length before) (length before) refl,
      ),
    )

    behind-head : NewAt o (before ++ step_words rs x) → NewAt (x ∷ o) before
    unfolding new_step_word
    behind-head n =
        let q = append_assoc before (step_words rs x) tail in (
          n.0,
          omega (arith, n.1, length-append before (step_words rs x)),
          rw q at n.2,
          rw (next-is rs x before tail, le-ltb n.0 (length (before ++ step_words rs x)) n.1) (rw q at n.3),
        )

  steps-new : (o : List ℕ) (before : List ℤ) (r : ℕ) → r ∈ o → f.knows (shape_kind (nth_region rs r).shape) ≡ false → NewAt o before
  steps-new [] before r m e = absurd (Memᴰ.not-nil m)
  steps-new (x ∷ o) before r m e = go (Memᴰ.cases_cons m) (steps-new o (before ++ step_words rs x) r)
    where
      go : (r ≡ x) ⊎ (r ∈ o) → (r ∈ o → f.knows (shape_kind (nth_region rs r).shape) ≡ false → NewAt o (before ++ step_words rs x)) → NewAt (x ∷ o) before
      go (inl q) ih = at_head x o before (rw q at e)
      go (inr k) ih = behind-head x o before (ih k e)

  all_in_order : (o : List ℕ) (w r : ℕ) → length rs ≤ 64 → Ordered rs w o → has_bit (after rs w o) r ≡ true → (has_bit w r ≡ true) ⊎ (r ∈ o)
  all_in_order [] w r few h e = inl e
  all_in_order (x ∷ o) w r few h e = go (all_in_order o (with_bit w x) r few h.3 e)
    where
      go : (has_bit (with_bit w x) r ≡ true) ⊎ (r ∈ o) → (has_bit w r ≡ true) ⊎ (r ∈ (x ∷ o))
      go (inl b) =
          let l = h.0 in
          ⊎_elim (λ q. inr (here q)) inl (with_cases w x r (omega arith) b)
      go (inr m) = inr (there m)

-- ---- the plan of regions

module _ (f : Float) (n : ℕ) (rs : List Region) (ok : Orderly rs) where
  abbrev head : List ℤ
  head = pos n ∷ pos (length rs) ∷ []

  -- a word of the plan is new where it is so among the steps in their order
  plan_new : (i : ℕ) → new_word f (plan_words n rs) i ≡ new_step_word f (length (order rs)) (head ++ steps_words rs (order rs)) 2 i
  unfolding new_word plan_words step_count word number
  plan_new i = ap (λ (k : ℕ). new_step_word f k (head ++ steps_words rs (order rs)) 2 i) (sym (order-length rs ok))

  in_order : (r : ℕ) → r < length rs → r ∈ order rs
  in_order r l =
      ⊎_elim (λ b. absurd (clash (sym b ∙ no_bit r))) (λ m. m) (all_in_order f rs (order rs) 0 r ok.few (order-ordered rs ok) (all_written rs ok r l))

  order_below : (o : List ℕ) (w r : ℕ) → Ordered rs w o → r ∈ o → r < length rs
  order_below [] w r h m = absurd (Memᴰ.not-nil m)
  order_below (x ∷ o) w r h m =
      let l : x < length rs = h.0 in
      ⊎_elim (λ q. rw q l) (λ k. order_below o (with_bit w x) r h.3 k) (Memᴰ.cases_cons m)

  -- nothing is new where the float knows the kinds of all regions
  plan-old : ((r : Region) → r ∈ rs → f.knows (shape_kind r.shape) ≡ true) → holds_new f (plan_words n rs) ≡ false
  unfolding holds_new lowest_new old_word
  plan-old known =
      let p = plan_words n rs in
      let old : (i : ℕ) → new_word f p i ≡ false =
      λ i. plan_new i
      ∙ steps-old f rs (order rs) head (λ r m. known (nth_region rs r) (region_in_lem rs r (order_below (order rs) 0 r (order-ordered rs ok) m))) i in
      let e = first-none (λ i. not (new_word f p i)) 0 (length p) (λ i a l. rw (old i)) in
      rw e (le-ltb (0 + length p) (length p) (omega arith))

  -- something is, where it does not know that of some region
  plan_has_new : (r : Region) → r ∈ rs → f.knows (shape_kind r.shape) ≡ false → holds_new f (plan_words n rs) ≡ true
  unfolding plan_words
  plan_has_new r m e =
      let k = region-of rs m in
      let q : f.knows (shape_kind (nth_region rs k.0).shape) ≡ false = rw k.2 e in
      let new = steps-new f rs (order rs) head k.0 (in_order k.0 k.1) q in
      holds-some f (plan_words n rs) new.0 new.2 (plan_new new.0 ∙ new.3)

-- ---- the plan of an accepted table, whatever the slice

module _ (f : Float) (less : KnowsLess f) (room : ℕ) (text : List ℕ) (accepted : table_verdict room text ≡ passed) where
  abbrev p : List ℤ
  p = plan_of text

  is-accepted : Accepted room text
  is-accepted = passed-accepted room text accepted

  plan-ok : check_of p ≡ passed
  plan-ok = plan-passes room text is-accepted

  -- it holds something new exactly where the table has a region of a kind that the float does not know
  pub table-old : KnownTo f text → holds_new f p ≡ false
  unfolding plan_of
  table-old known = plan-old f (length (dimensions text)) (regions (gates text)) (orderly (gates text) is-accepted.rules) known

  pub table-new : (r : Region) → r ∈ regions (gates text) → f.knows (shape_kind r.shape) ≡ false → holds_new f p ≡ true
  unfolding plan_of
  table-new r m e = plan_has_new f (length (dimensions text)) (regions (gates text)) (orderly (gates text) is-accepted.rules) r m e

  -- then the float refuses it by 22 at the lowest new word, and counts nothing
  pub new-table-refused : holds_new f p ≡ true → RefusedAsNew f p (lowest_new f p)
  new-table-refused new = record {
    is_new = lowest_is-new f p new;
    none_before = nothing-before f p;
    refuses = new-refused f less p plan-ok new;
    never_counts = λ values. new-uncounted f less p values plan-ok new;
  }

  -- else it passes, and the float counts as those of today
  pub old-table-counted : KnownTo f text → (check_for f p ≡ passed) × ((values : List ℤ) → count_for f p values ≡ count_of p values)
  old-table-counted known = let old = table-old known in (old-passes f less p plan-ok old, λ values. old-counted f less p values plan-ok old)

-- the claim about floats of the first issue, for every table and slice
module _ (text : List ℕ) (slice : List ℤ) where
  abbrev made : Compiling
  made = compile_of text slice

  verdict_is : made.verdict ≡ passed → table_verdict (length slice) text ≡ passed
  verdict_is ok = sym (compiled-verdict text slice) ∙ ok

  made-plan : made.verdict ≡ passed → lent made.words made.slice ≡ plan_of text
  made-plan ok = let v = verdict_is ok in compiled-plan text slice v (passed-accepted (length slice) text v).slice_fits

  of-plan : made.verdict ≡ passed → (r : Region) → r ∈ regions (gates text) → NewToFirst (shape_kind r.shape)
      → (place : ℕ) × RefusedAsNew first (plan_of text) place × NewToFirst (kind_at (plan_of text) place)
  of-plan ok r m e =
      let v = verdict_is ok in
      let new = table-new first first_less (length slice) text v r m (unknown_to-first (shape_kind r.shape) e) in (
        lowest_new first (plan_of text),
        new-table-refused first first_less (length slice) text v new,
        first-at-new (plan_of text) (plan-ok first first_less (length slice) text v) new,
      )

  pub first-refuses : FirstFloatRefuses text made
  first-refuses ok r m e = rw (made-plan ok) (of-plan ok r m e)

-- ---- demand 3, for every table in which nothing is new to the float

-- counting that meets it by a plan of today does so by the float, where the plan passes there
for_float : (f : Float) → KnowsLess f → (text again : List ℕ) (values : List ℤ) (c : TableCounting) → Demand3 text again values c
    → check_for f (lent c.words c.slice) ≡ passed → Demand3For f text again values c
for_float f less text again values c d ok = record {
  compiles = d.compiles;
  unrefused = d.unrefused;
  its_plan = d.its_plan;
  passing = ok;
  counting = counts-as-today f less (lent c.words c.slice) values ok ∙ d.counting;
  found = d.found;
  by_name = d.by_name;
  all_taken = d.all_taken;
  all_spoilt = d.all_spoilt;
  all_unclaimed = d.all_unclaimed;
  quadrants = d.quadrants;
}

pub demand_3_for : (f : Float) → KnowsLess f → (again columns : List ℕ) (slice values : List ℤ) (text : List ℕ) → KnownTo f text
    → table_verdict 4096 text ≡ passed → (ks : List (List ℕ)) → LineOrder text ks → again ≡ reordered text ks → is_right text columns ≡ true
    → length slice ≡ 4096 → length values % dims text ≡ 0 → Demand3For f text again values (count_table_of again columns slice values)
demand_3_for f less again columns slice values text known accepted ks order e right room complete =
    let c = count_table_of again columns slice values in
    let d = demand_3 again columns slice values text accepted ks order e right room complete in
    let both = ordered-again text accepted ks order in
    let known-again : KnownTo f again = λ r m. known r (moved-region (Permᴰ.symm both.moved) (rw e at m)) in
    for_float f less text again values c d (rw d.its_plan (old-table-counted f less 4096 again d.compiles known-again).0)
