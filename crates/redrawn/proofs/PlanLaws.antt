-- A plan whose polygons are redrawn passes where the first does, and judges and counts the same, on floats of every issue.
use mathlib.Core.Path.{◌≡◌, refl, sym, ap, ◌∙◌}
use mathlib.Core.Bool.{Bool, true, false, not, cond}
use mathlib.Core.List.{List}
use Prim.Native.Nat.{ℕ, zero, suc, ◌/◌, ◌<◌, ◌≤◌}
use native.Mathlib.Omega.{arith}
use native.Mathlib.Decide.{dec_lt}
use lib.IntN.{ℤ}
use lib.ListN.{length}
use lib.Dec.{ltb}
use Rattle.plans.specs.Words.{word}
use Rattle.plans.specs.Bits.{with_bit}
use Rattle.plans.specs.Refusals.{Verdict, passed, refused}
use Rattle.plans.specs.Form.{spans, Float, kind_at, region_at, length_at, body_at, next_at, width, step_count, check_for, check_of}
use Rattle.plans.specs.NewWords.{new_word, old_word, lowest_new, holds_new}
use Rattle.plans.specs.Inner.Reader.{head_run, body_run, steps_form, read_form}
use Rattle.plans.proofs.IndexLaws.{first-same, how_many-same}
use Rattle.plans.proofs.CheckLaws.{few-steps}
use Rattle.plans.proofs.ReaderLaws.{check_reads, form-head, form-body, form-good, steps-bad, steps-good, next-inside, count-there}
use Rattle.plans.proofs.FloatTheorems.{KnowsLess, check_for_lem}
use Rattle.counter.specs.Members.{bits_of}
use Rattle.counter.specs.Outlines.{outline_of}
use Rattle.counter.specs.Judging.{members, unclaimed, judge_passed, judge_of}
use Rattle.counter.specs.Counting.{event_at, member_at, unclaimed_at, in_region, tally_of, count_passed, count_for}
use Rattle.counter.proofs.TableLaws.{table_ext}
use Rattle.redrawn.proofs.StepLaws.{StepsRedrawn, next-same, head-same, body_full, settled_same, outline-same, new-same}

-- two plans that are the same but for polygons that are redrawn, any number of them, each in its own way
pub record PlanRedrawn (p q : List ℤ) : Type 0 where
  pub size : length q ≡ length p
  pub width : word q 0 ≡ word p 0
  pub count : word q 1 ≡ word p 1
  pub steps : StepsRedrawn (step_count p) p q 2

-- ---- the form

not-passed : {place : ℕ} → ◌≡◌ {A = Verdict} (refused 22 place) passed → ⊥
not-passed e = let z : ◌≡◌ {A = ℕ} 22 0 = ap (λ (v : Verdict). v.number) e in omega arith

steps-pass : (left : ℕ) (p q : List ℤ) (n k set at : ℕ) → k ≤ 64 → at ≤ length p → length q ≡ length p → StepsRedrawn left p q at
    → steps_form left p n k set at ≡ passed → steps_form left q n k set at ≡ passed
unfolding steps_form
steps-pass zero p q n k set at few inside size s e = rw size e
steps-pass (suc left) p q n k set at few inside size s e =
    go (dec_lt (head_run p k set at) 4) (dec_lt (body_run (kind_at p at) n k set (body_at p at)) (length_at p at))
    (λ h f. steps-pass left p q n k (with_bit set (region_at p at)) (next_at p at) few h size s.1 f)
  where
    go : Dec (head_run p k set at < 4) → Dec (body_run (kind_at p at) n k set (body_at p at) < length_at p at)
        → (next_at p at ≤ length p → steps_form left p n k (with_bit set (region_at p at)) (next_at p at) ≡ passed
        → steps_form left q n k (with_bit set (region_at p at)) (next_at p at) ≡ passed)
        → steps_form (suc left) q n k set at ≡ passed
    go (yes h) d ih = absurd (not-passed (sym (steps-bad p n k set at left (form-head p n k set at h)) ∙ e))
    go (no h) (yes b) ih = absurd (not-passed (sym (steps-bad p n k set at left (form-body p n k set at (omega arith) b)) ∙ e))
    go (no h) (no b) ih =
        let next = next-inside left p n k set at few inside (omega arith) (omega arith) in
        let whole : 4 ≤ head_run q k set at = rw (head-same s.0 k set) (omega arith) in
        let full = body_full s.0 n k set next (omega arith) in
        steps-good q n k set at left (form-good q n k set at whole full)
        ∙ rw (s.0.region, next-same s.0) (ih next (sym (steps-good p n k set at left (form-good p n k set at (omega arith) (omega arith))) ∙ e))

-- ---- the plan

module _ {p q : List ℤ} (r : PlanRedrawn p q) where
  width_same : width q ≡ width p
  unfolding width
  width_same = rw r.width

  count_same : step_count q ≡ step_count p
  unfolding step_count
  count_same = rw r.count

  pub passes-redrawn : check_of p ≡ passed → check_of q ≡ passed
  unfolding read_form
  passes-redrawn e =
      check_reads q
      ∙ rw (r.size, width_same, count_same) (go (ltb 4096 (length p)) (spans 1 8 (width p)) (spans 0 64 (step_count p)) refl (sym (check_reads p) ∙ e))
    where
      go : (l a b : Bool) → spans 0 64 (step_count p) ≡ b
          → cond l (refused 21 0) (cond (not a) (refused 22 0) (cond (not b) (refused 22 1) (steps_form (step_count p) p (width p) (step_count p) 0 2)))
          ≡ passed
          → cond l (refused 21 0) (cond (not a) (refused 22 0) (cond (not b) (refused 22 1) (steps_form (step_count p) q (width p) (step_count p) 0 2)))
          ≡ passed
      go true a b eb f = f
      go false false b eb f = f
      go false true false eb f = f
      go false true true eb f =
          steps-pass (step_count p) p q (width p) (step_count p) 0 2 (few-steps eb) (count-there p eb) r.size r.steps f

  bits-same : (event : List ℤ) → bits_of q event ≡ bits_of p event
  unfolding bits_of
  bits-same event = rw count_same (settled_same p q (step_count p) event 0 2 r.steps)

  outlines-same : (event : List ℤ) → outline_of q event ≡ outline_of p event
  unfolding outline_of
  outlines-same event = rw count_same (outline-same p q (step_count p) event 0 0 2 r.steps)

  -- ---- judging

  pub judge_redrawn : check_of p ≡ passed → (event : List ℤ) → judge_of q event ≡ judge_of p event
  unfolding judge_of judge_passed
  judge_redrawn e event = rw (passes-redrawn e, e, width_same, bits-same event, outlines-same event)

  -- ---- counting

  members-same : (event : List ℤ) → members q event ≡ members p event
  unfolding members
  members-same event = rw (bits-same event)

  member-same : (events : List ℤ) (region j : ℕ) → member_at q events region j ≡ member_at p events region j
  unfolding member_at
  member-same events region j = rw (width_same, members-same (event_at (width p) events j))

  unclaimed_same : (events : List ℤ) (j : ℕ) → unclaimed_at q events j ≡ unclaimed_at p events j
  unfolding unclaimed_at unclaimed
  unclaimed_same events j = rw (width_same, members-same (event_at (width p) events j))

  tally-same : (events : List ℤ) (m : ℕ) → tally_of q events m ≡ tally_of p events m
  unfolding tally_of in_region
  tally-same events m =
      rw (
        width_same,
        table_ext (in_region q events m) (in_region p events m) 0 64
            (λ i l. how_many-same (member_at q events i) (member_at p events i) m (λ j h. member-same events i j)),
        how_many-same (unclaimed_at q events) (unclaimed_at p events) m (λ j h. unclaimed_same events j),
      )

  -- ---- a float of any issue that knows no more than those of today

  module _ (e : check_of p ≡ passed) (f : Float) (less : KnowsLess f) where
    old-same : (i : ℕ) → old_word f q i ≡ old_word f p i
    unfolding old_word new_word
    old-same i = rw (count_same, new-same p q f (step_count p) 2 i r.steps)

    lowest_same : lowest_new f q ≡ lowest_new f p
    unfolding lowest_new
    lowest_same = rw r.size (first-same (old_word f q) (old_word f p) 0 (length p) (λ i a l. old-same i))

    pub check_redrawn : check_for f q ≡ check_for f p
    unfolding holds_new
    check_redrawn = check_for_lem f less q (passes-redrawn e) ∙ rw (lowest_same, r.size) (sym (check_for_lem f less p e))

    pub count-redrawn : (events : List ℤ) → count_for f q events ≡ count_for f p events
    unfolding count_for count_passed
    count-redrawn events = rw (check_redrawn, width_same, tally-same events (length events / width p))
