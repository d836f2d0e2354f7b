-- Laws of a run: what each answer prints, and the words and values that are counted.
use mathlib.Core.Path.{◌≡◌, refl, sym, ◌∙◌, ap}
use mathlib.Core.Bool.{Bool, true, false, cond}
use mathlib.Core.List.{List, map}
use Prim.Native.Nat.{ℕ, zero, suc, ◌≤◌, ◌<◌}
use native.Mathlib.Omega.{arith}
use lib.Dec.{ltb, eqb}
use lib.IntN.{ℤ}
use lib.ListN.{length, take}
use borrow.Author.Tests.{lt-ltb, le-ltb}
use Rattle.std.specs.Prelude.{Option, Some, None, Result, Err}
use Rattle.text.specs.Numbers.{clamp}
use Rattle.plans.specs.Words.{word, number}
use Rattle.plans.specs.Refusals.{passed, refused, refusal, verdict}
use Rattle.plans.specs.Form.{today, width, step_count, next_at, steps_end, plan_end, word_good_for, lowest_bad, form_for, form_of, check_for, check_of}
use Rattle.plans.specs.declared.Refusal.{Refusal}
use Rattle.plans.specs.declared.Refusal.TheVariants.{LongPlan, Malformed, Ragged as RaggedList, Spoilt}
use Rattle.plans.proofs.CheckLaws.{few-steps}
use Rattle.plans.proofs.PlanTheorems.{passed→form}
use Rattle.counter.specs.Counting.{count_of}
use Rattle.events.specs.Parting.{table_part}
use Rattle.events.specs.Listing.{Events, list, ragged, events_of}
use Rattle.events.specs.Inner.Answers.{parted_of, above_zero}
use Rattle.events.specs.Printing.{refused_line, unless_refused}
use Rattle.events.specs.declared.parting.Parted.{Parted}
use Rattle.events.proofs.ListingLaws.{above-is, above-none}
use Rattle.events.proofs.CountedLaws.{count_clamped}
use Rattle.runreport.specs.PlanReading.{unread_line, words_of}
use Rattle.runreport.specs.Running.{unread_text, count_text, events_text, ran_text, run_report_of}

-- ---- refusals

refusal-some : (r : Refusal) → eqb (refusal r).number 0 ≡ false
refusal-some LongPlan = refl
refusal-some (Malformed place) = refl
refusal-some (RaggedList length) = refl
refusal-some (Spoilt place) = refl

-- what is refused is printed as such
pub refused-text : (r : Refusal) (lines : List ℕ) → unless_refused (refusal r) lines ≡ refused_line (refusal r).number (refusal r).place
refused-text r lines = rw (refusal-some r)

-- ---- the plan

module _ (p : List ℤ) where
  pub width_is : {n : ℕ} → n ≡ number (word p 0) → n ≡ width p
  unfolding width
  width_is e = e

  pub count-is : {k : ℕ} → k ≡ number (word p 1) → k ≡ step_count p
  unfolding step_count
  count-is e = e

  pub steps-from : (left at : ℕ) → at ≤ steps_end left p at
  unfolding steps_end next_at
  steps-from zero at = omega arith
  steps-from (suc left) at = omega (arith, steps-from left (next_at p at))

  module _ {c : Result Unit Refusal} (e : verdict c ≡ check_of p) where
    pub plan-refused : (r : Refusal) → c ≡ Err r → (es : Events) → ran_text p es ≡ refused_line (refusal r).number (refusal r).place
    unfolding ran_text
    plan-refused r q es = rw (← e, q) (refused-text r (events_text p es))

  -- number 0 is no refusal
  pub accepted-passed : (check_of p).number ≡ 0 → check_of p ≡ passed
  unfolding check_for form_for
  accepted-passed = outer (ltb 4096 (length p))
    where
      inner : (b : Bool) → (cond b passed (refused 22 (length p))).number ≡ 0 → cond b passed (refused 22 (length p)) ≡ passed
      inner true h = refl
      inner false h = absurd (omega arith)

      middle : (b : Bool) → (cond b (refused 22 (lowest_bad p)) (cond (eqb (plan_end p) (length p)) passed (refused 22 (length p)))).number ≡ 0
          → cond b (refused 22 (lowest_bad p)) (cond (eqb (plan_end p) (length p)) passed (refused 22 (length p))) ≡ passed
      middle true h = absurd (omega arith)
      middle false h = inner (eqb (plan_end p) (length p)) h

      outer : (b : Bool) → (cond b (refused 21 0) (form_of p)).number ≡ 0 → cond b (refused 21 0) (form_of p) ≡ passed
      outer true h = absurd (omega arith)
      outer false h = middle (ltb (lowest_bad p) (length p)) h

  module _ (ok : check_of p ≡ passed) where
    pub head-there : 2 ≤ length p
    unfolding plan_end
    head-there = omega (arith, (passed→form today p ok).1.ends, steps-from (step_count p) 2)

    pub count_most : step_count p ≤ 64
    unfolding word_good_for
    count_most = few-steps ((passed→form today p ok).1.words 1 (omega (arith, head-there)))

-- ---- the events, by a plan that passes

module _ (p : List ℤ) (ok : check_of p ≡ passed) where
  pub ran-counted : {es : Events} (vs : List ℤ) → es ≡ list vs → {k : ℕ} → k ≡ step_count p → {values : List ℤ} → values ≡ map clamp vs
      → count_text k (count_of p values) ≡ ran_text p es
  unfolding ran_text
  ran-counted vs e f g = rw (ok, e, f, g) (ap (count_text (step_count p)) (count_clamped p vs))

  pub ran-ragged : {es : Events} (line : ℕ) → es ≡ ragged line → refused_line 23 line ≡ ran_text p es
  unfolding ran_text
  ran-ragged line e = rw (ok, e)

-- ---- the whole input

pub part-is : (input : List ℕ) (o : Parted) → o ≡ parted_of input → take o.table input ≡ table_part input
unfolding parted_of table_part
part-is input o e = rw e

module _ (input : List ℕ) where
  pub run_long : 131072 < length input → unread_text 0 ≡ run_report_of input
  unfolding run_report_of
  run_long h = rw (lt-ltb 131072 (length input) h)

  module _ (h : length input ≤ 131072) {part : List ℕ} (e : part ≡ table_part input) {u : Option ℕ} (f : u ≡ above_zero (unread_line part)) where
    pub run_unread : (line : ℕ) → u ≡ Some line → unread_text line ≡ run_report_of input
    unfolding run_report_of
    run_unread line q =
        let l = above-is (unread_line part) (sym f ∙ q) in
        rw (le-ltb 131072 (length input) h, ← e, lt-ltb 0 (unread_line part) l.1, l.0)

    pub run_ran : u ≡ None → (p : List ℤ) → p ≡ words_of part → ran_text p (events_of false (width p) input) ≡ run_report_of input
    unfolding run_report_of
    run_ran q p w =
        let z = above-none (unread_line part) (sym f ∙ q) in
        rw (le-ltb 131072 (length input) h, ← e, z, w)
