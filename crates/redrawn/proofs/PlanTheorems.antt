-- The plan with a polygon redrawn, or with any number of them: it passes, and judges and counts as the plan that passes does.
use mathlib.Core.Path.{◌≡◌, refl, sym, ap, ◌∙◌}
use mathlib.Core.Bool.{Bool}
use mathlib.Core.List.{List, [], ◌∷◌, ◌++◌}
use Prim.Native.Nat.{ℕ, zero, suc, ◌+◌, ◌-◌, ◌%◌, ◌<◌, ◌≤◌}
use native.Mathlib.Omega.{arith}
use native.Mathlib.Nat.{zero-add}
use lib.IntN.{ℤ, negsuc}
use lib.ListN.{length, take, drop, get_or, length-take, length-drop, length-append}
use lib.Seq.{take_at, drop_at, drop-drop, drop-append-add, take-append_seam, take-take, take-nil, drop-nil, get_or-take, get_or-drop}
use Rattle.plans.specs.Words.{word, part}
use Rattle.plans.specs.Refusals.{passed}
use Rattle.plans.specs.Form.{Float, today, kind_at, region_at, length_at, body_at, next_at, steps_end, width, step_count, check_for, check_of}
use Rattle.plans.specs.declared.Kind.TheVariants.{Polygon}
use Rattle.plans.proofs.FloatTheorems.{KnowsLess}
use Rattle.counter.specs.Counting.{count_for}
use Rattle.counter.specs.Inner.Ranges.{Vertices}
use Rattle.counter.specs.Inner.Steps.{head_at, Sound, AllSound}
use Rattle.counter.proofs.SoundLaws.{passing, body-length, shaped-at}
use Rattle.redrawn.specs.Plans.{redrawn_body, place_of, redrawn_at, redrawn_plan, Redrawings, unchanged, one_more, SameByPlan}
use Rattle.redrawn.proofs.StepLaws.{BodyRedrawn, kept, drawn, StepRedrawn, StepsRedrawn, length-body}
use Rattle.redrawn.proofs.PlanLaws.{PlanRedrawn, passes-redrawn, judge_redrawn, check_redrawn, count-redrawn}

-- ---- a list that is changed between two places only

-- a part of the first words
take-drop : (i c : ℕ) (l : List ℤ) → take c (drop i l) ≡ drop i (take (i + c) l)
take-drop zero c l = rw zero-add
take-drop (suc i) c [] = take-nil c ∙ sym (ap (drop (suc i)) (take-nil (suc i + c)) ∙ drop-nil (suc i))
take-drop (suc i) c (x ∷ l) = let e : suc i + c ≡ suc (i + c) = omega arith in rw e (take-drop i c l)

-- from word m on mid stands in the place of the words up to n
module _ (p : List ℤ) (m n : ℕ) (mid : List ℤ) (order : m + length mid ≡ n) (inside : n ≤ length p) where
  abbrev changed : List ℤ
  changed = take m p ++ (mid ++ drop n p)

  front_length : length (take m p) ≡ m
  front_length = simp length-take (omega arith)

  length-changed : length changed ≡ length p
  length-changed = let f = front_length in simp (length-append, length-drop) (omega arith)

  drop_mid : drop m changed ≡ mid ++ drop n p
  drop_mid = drop_at (take m p) (mid ++ drop n p) m front_length

  drop-later : (i : ℕ) → n ≤ i → drop i changed ≡ drop i p
  drop-later i h =
      let a : m + (length mid + (i - n)) ≡ i = omega arith in
      let b : n + (i - n) ≡ i = omega arith in
      ap (λ (j : ℕ). drop j changed) (sym a) ∙ sym (drop-drop (length mid + (i - n)) m changed)
      ∙ ap (drop (length mid + (i - n))) drop_mid ∙ drop-append-add mid (drop n p) (i - n) ∙ drop-drop (i - n) n p ∙ ap (λ (j : ℕ). drop j p) b

  take-earlier : take m changed ≡ take m p
  take-earlier = take_at (take m p) (mid ++ drop n p) m front_length

  word-earlier : (i : ℕ) → i < m → word changed i ≡ word p i
  unfolding word
  word-earlier i h = sym (get_or-take m changed i _ h) ∙ ap (λ (l : List ℤ). get_or l i (negsuc 2147483647)) take-earlier ∙ get_or-take m p i _ h

  word-later : (i : ℕ) → n ≤ i → word changed i ≡ word p i
  unfolding word
  word-later i h =
      let d : ℤ = negsuc 2147483647 in
      let e : i + 0 ≡ i = omega arith in
      let at : (l : List ℤ) → get_or l i d ≡ get_or (drop i l) 0 d = λ l. ap (λ (j : ℕ). get_or l j d) (sym e) ∙ sym (get_or-drop i l 0 d) in
      at changed ∙ ap (λ (l : List ℤ). get_or l 0 d) (drop-later i h) ∙ sym (at p)

  part-earlier : (i c : ℕ) → i + c ≤ m → part changed i c ≡ part p i c
  unfolding part
  part-earlier i c h =
      take-drop i c changed
      ∙ ap (drop i) (sym (take-take (i + c) m changed h) ∙ ap (take (i + c)) take-earlier ∙ take-take (i + c) m p h)
      ∙ sym (take-drop i c p)

  part_mid : part changed m (length mid) ≡ mid
  unfolding part
  part_mid = rw (drop_mid, take-append_seam mid (drop n p))

  part-later : (i c : ℕ) → n ≤ i → part changed i c ≡ part p i c
  unfolding part
  part-later i c h = rw (drop-later i h)

-- ---- a step whose header is the same

step_of : {p q : List ℤ} (a : ℕ) → ((j : ℕ) → j < 4 → word q (a + j) ≡ word p (a + j))
    → BodyRedrawn (kind_at p a) (body_at p a) (part q (a + 4) (length_at p a)) → StepRedrawn p q a
unfolding kind_at region_at length_at body_at
step_of {p} {q} a same b =
    let z : a + 0 ≡ a = omega arith in
    let w : word q a ≡ word p a = rw z at (same 0 (omega arith)) in
    record {
      kind = rw w;
      region = rw (same 1 (omega arith));
      parent = same 2 (omega arith);
      size = rw (same 3 (omega arith));
      body = rw (same 3 (omega arith)) b;
    }

next-later : (p : List ℤ) {b : ℕ} (a : ℕ) → b ≤ a → b ≤ next_at p a
unfolding next_at
next-later p a h = omega arith

place-later : (p : List ℤ) (a i : ℕ) → a ≤ steps_end i p a
unfolding steps_end
place-later p a zero = omega arith
place-later p a (suc i) =
    let h = place-later p (next_at p a) i in
    let g : a ≤ next_at p a = next-later p a (omega arith) in
    omega arith

body-drawn : (k : ℕ) (back : Bool) (body : List ℤ) → 2 ≤ length body → length (drop 2 body) % 2 ≡ 0 → BodyRedrawn Polygon body (redrawn_body k back body)
unfolding redrawn_body
body-drawn k back [] h whole = absurd (omega arith)
body-drawn k back (x ∷ []) h whole = absurd (omega arith)
body-drawn k back (x ∷ (y ∷ v)) h whole = drawn k back whole

-- ---- the polygon at a place

module _ (k : ℕ) (back : Bool) (p : List ℤ) (n at : ℕ) (s : Sound p n at) (polygon : kind_at p at ≡ Polygon) where
  body-form : (2 ≤ length (body_at p at)) × Vertices (drop 2 (body_at p at))
  body-form = let w = rw polygon at (shaped-at s (head_at p at)) in (w.1, w.2)

  here-drawn : BodyRedrawn Polygon (body_at p at) (redrawn_body k back (body_at p at))
  here-drawn = let w = body-form in body-drawn k back (body_at p at) w.0 w.1.even

  kept-body : (a : ℕ) → BodyRedrawn (kind_at p a) (body_at p a) (part p (a + 4) (length_at p a))
  unfolding body_at
  kept-body a = kept

  body-size : length (redrawn_body k back (body_at p at)) ≡ length_at p at
  body-size = length-body here-drawn ∙ body-length s

  places : at + 4 + length (redrawn_body k back (body_at p at)) ≡ next_at p at
  unfolding next_at
  places = rw body-size

  word-before : (i : ℕ) → i < at + 4 → word (redrawn_at k back p at) i ≡ word p i
  unfolding redrawn_at
  word-before i h = word-earlier p (at + 4) (next_at p at) (redrawn_body k back (body_at p at)) places s.inside i h

  word_after : (i : ℕ) → next_at p at ≤ i → word (redrawn_at k back p at) i ≡ word p i
  unfolding redrawn_at
  word_after i h = word-later p (at + 4) (next_at p at) (redrawn_body k back (body_at p at)) places s.inside i h

  as_long : length (redrawn_at k back p at) ≡ length p
  unfolding redrawn_at
  as_long = length-changed p (at + 4) (next_at p at) (redrawn_body k back (body_at p at)) places s.inside

  body-here : part (redrawn_at k back p at) (at + 4) (length_at p at) ≡ redrawn_body k back (body_at p at)
  unfolding redrawn_at
  body-here = rw (← body-size) (part_mid p (at + 4) (next_at p at) (redrawn_body k back (body_at p at)) places s.inside)

  -- a step before it, the step itself, a step after it
  step-before : (a : ℕ) → next_at p a ≤ at → StepRedrawn p (redrawn_at k back p at) a
  unfolding next_at redrawn_at
  step-before a h =
      step_of a (λ j l. word-before (a + j) (omega arith))
      (rw (part-earlier p (at + 4) (next_at p at) (redrawn_body k back (body_at p at)) places s.inside (a + 4) (length_at p a) (omega arith)) (kept-body a))

  step-here : StepRedrawn p (redrawn_at k back p at) at
  step-here = step_of at (λ j l. word-before (at + j) (omega arith)) (rw (body-here, polygon) here-drawn)

  step_after : (a : ℕ) → next_at p at ≤ a → StepRedrawn p (redrawn_at k back p at) a
  unfolding redrawn_at
  step_after a h =
      step_of a (λ j l. word_after (a + j) (omega arith))
      (rw (part-later p (at + 4) (next_at p at) (redrawn_body k back (body_at p at)) places s.inside (a + 4) (length_at p a) (omega arith)) (kept-body a))

  -- the steps after it, and the steps from i steps before it on
  steps-after : (left a : ℕ) → next_at p at ≤ a → StepsRedrawn left p (redrawn_at k back p at) a
  steps-after zero a h = tt
  steps-after (suc left) a h = (step_after a h, steps-after left (next_at p a) (next-later p a h))

  steps_with : (left i a : ℕ) → i < left → steps_end i p a ≡ at → StepsRedrawn left p (redrawn_at k back p at) a
  unfolding steps_end
  steps_with zero i a h e = absurd (omega arith)
  steps_with (suc left) zero a h e = rw e (step-here, steps-after left (next_at p at) (omega arith))
  steps_with (suc left) (suc i) a h e =
      (step-before a (rw (← e) (place-later p (next_at p a) i)), steps_with left i (next_at p a) (omega arith) e)

-- ---- step i of a plan that passes is a polygon

sound-at : (left i : ℕ) (p : List ℤ) (n a : ℕ) → i < left → AllSound left p n a → Sound p n (steps_end i p a)
unfolding steps_end
sound-at zero i p n a h s = absurd (omega arith)
sound-at (suc left) zero p n a h s = s.0
sound-at (suc left) (suc i) p n a h s = sound-at left i p n (next_at p a) (omega arith) s.1

module _ (p : List ℤ) (i : ℕ) (e : check_of p ≡ passed) (h : i < step_count p) (polygon : kind_at p (place_of p i) ≡ Polygon) where
  sound-here : Sound p (width p) (place_of p i)
  unfolding place_of
  sound-here = sound-at (step_count p) i p (width p) 2 h (passing p e).sound

  two-later : 2 ≤ place_of p i
  unfolding place_of
  two-later = place-later p 2 i

  module _ (k : ℕ) (back : Bool) where
    one-redrawn : PlanRedrawn p (redrawn_plan k back p i)
    unfolding place_of redrawn_plan
    one-redrawn =
        let t = two-later in
        record {
          size = as_long k back p (width p) (place_of p i) sound-here polygon;
          width = word-before k back p (width p) (place_of p i) sound-here polygon 0 (omega arith);
          count = word-before k back p (width p) (place_of p i) sound-here polygon 1 (omega arith);
          steps = steps_with k back p (width p) (place_of p i) sound-here polygon (step_count p) i 2 h refl;
        }

    -- as many words; the step's body is its body redrawn, and every other word stays
    pub redrawn-size : length (redrawn_plan k back p i) ≡ length p
    redrawn-size = one-redrawn.size

    pub redrawn-body : part (redrawn_plan k back p i) (place_of p i + 4) (length_at p (place_of p i)) ≡ redrawn_body k back (body_at p (place_of p i))
    unfolding redrawn_plan
    redrawn-body = body-here k back p (width p) (place_of p i) sound-here polygon

    pub words-before : (j : ℕ) → j < place_of p i + 4 → word (redrawn_plan k back p i) j ≡ word p j
    unfolding redrawn_plan
    words-before = word-before k back p (width p) (place_of p i) sound-here polygon

    pub words-after : (j : ℕ) → next_at p (place_of p i) ≤ j → word (redrawn_plan k back p i) j ≡ word p j
    unfolding redrawn_plan
    words-after = word_after k back p (width p) (place_of p i) sound-here polygon

    -- it passes, and judges and counts the same
    pub plan-redrawn : SameByPlan p (redrawn_plan k back p i)
    plan-redrawn = record {
      passes = passes-redrawn one-redrawn e;
      judged = judge_redrawn one-redrawn e;
      counted = count-redrawn one-redrawn e today (λ kind known. known);
    }

    -- floats of an earlier issue pass or refuse it as they do the first, and count the same
    pub float_redrawn : (f : Float) → KnowsLess f
        → (check_for f (redrawn_plan k back p i) ≡ check_for f p) × ((events : List ℤ) → count_for f (redrawn_plan k back p i) events ≡ count_for f p events)
    float_redrawn f less = (check_redrawn one-redrawn e f less, count-redrawn one-redrawn e f less)

-- ---- any number of polygons, one after another
pub plans-redrawn : {p q : List ℤ} → check_of p ≡ passed → Redrawings p q → SameByPlan p q
plans-redrawn e unchanged = record { passes = e; judged = λ event. refl; counted = λ events. refl }
plans-redrawn e (one_more {q} before i inside polygon k back) =
    let first = plans-redrawn e before in
    let last = plan-redrawn q i first.passes inside polygon k back in
    record {
      passes = last.passes;
      judged = λ event. last.judged event ∙ first.judged event;
      counted = λ events. last.counted events ∙ first.counted events;
    }
