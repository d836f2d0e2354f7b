-- Steps that are the same but for polygons that are redrawn: good where they were good, with the same members and the same on the outline.
use mathlib.Core.Path.{◌≡◌, refl}
use mathlib.Core.Bool.{Bool, true, cond}
use mathlib.Core.List.{List, ◌∷◌}
use Prim.Native.Nat.{ℕ, zero, suc, ◌+◌, ◌%◌, ◌<◌, ◌≤◌}
use native.Mathlib.Omega.{arith}
use lib.IntN.{ℤ, negsuc}
use lib.ListN.{length}
use borrow.Author.Tests.{le-ltb}
use Rattle.plans.specs.Indices.{all}
use Rattle.plans.specs.Words.{word, on_scale}
use Rattle.plans.specs.Bits.{with_bit}
use Rattle.plans.specs.Form.{differs, dimension_good, polygon_word, body_word, Float, kind_at, region_at, length_at, body_at, next_at, head_word_for}
use Rattle.plans.specs.NewWords.{new_step_word}
use Rattle.plans.specs.Inner.Reader.{head_run, body_run}
use Rattle.plans.specs.declared.Kind.{Kind}
use Rattle.plans.specs.declared.Kind.TheVariants.{Polygon}
use Rattle.plans.proofs.IndexLaws.{first-before, first-same, first-none}
use Rattle.plans.proofs.WordLaws.{length_part}
use Rattle.counter.specs.Members.{value_in, polygon_in, shape_in, step_in, settled}
use Rattle.counter.specs.Outlines.{polygon_on, shape_on, step_on, outline_from}
use Rattle.redrawn.specs.Redrawing.{redrawn}
use Rattle.redrawn.proofs.VertexLaws.{length-redrawn}
use Rattle.redrawn.proofs.ElementLaws.{Each, each_redrawn, each_at, each_of}
use Rattle.redrawn.proofs.OutlineTheorems.{inside-redrawn, position-redrawn}

-- ---- what is the same of two plans, step by step
pub data BodyRedrawn : Kind → List ℤ → List ℤ → Type 0 where
  kept : {kind : Kind} {body : List ℤ} → BodyRedrawn kind body body
  drawn : {x y : ℤ} {v : List ℤ} (k : ℕ) (back : Bool) → length v % 2 ≡ 0 → BodyRedrawn Polygon (x ∷ (y ∷ v)) (x ∷ (y ∷ redrawn k back v))

pub record StepRedrawn (p q : List ℤ) (at : ℕ) : Type 0 where
  pub kind : kind_at q at ≡ kind_at p at
  pub region : region_at q at ≡ region_at p at
  pub parent : word q (at + 2) ≡ word p (at + 2)
  pub size : length_at q at ≡ length_at p at
  pub body : BodyRedrawn (kind_at p at) (body_at p at) (body_at q at)

abbrev pub StepsRedrawn : ℕ → List ℤ → List ℤ → ℕ → Type 0
StepsRedrawn zero p q at = Unit {0}
StepsRedrawn (suc left) p q at = StepRedrawn p q at × StepsRedrawn left p q (next_at p at)

-- ---- a body

shape-redrawn : {kind : Kind} {body other : List ℤ} → BodyRedrawn kind body other → (event : List ℤ) (bits : ℕ)
    → shape_in kind event bits other ≡ shape_in kind event bits body
unfolding polygon_in value_in word
shape-redrawn kept event bits = refl
shape-redrawn (drawn {x = x} {y = y} {v = v} k back whole) event bits = inside-redrawn k back v whole _ _

on_redrawn : {kind : Kind} {body other : List ℤ} → BodyRedrawn kind body other → (event : List ℤ) → shape_on kind event other ≡ shape_on kind event body
unfolding polygon_on value_in word
on_redrawn kept event = refl
on_redrawn (drawn {x = x} {y = y} {v = v} k back whole) event = rw (position-redrawn k back v whole _ _)

pub length-body : {kind : Kind} {body other : List ℤ} → BodyRedrawn kind body other → length other ≡ length body
length-body kept = refl
length-body (drawn {v = v} k back whole) = let e = length-redrawn k back v in omega arith

abbrev Good : Kind → ℕ → ℕ → ℕ → List ℤ → Type 0
Good kind n k set body = (i : ℕ) → i < length body → body_word kind n k set body i ≡ true

words-redrawn : {kind : Kind} {body other : List ℤ} → BodyRedrawn kind body other → (n k set : ℕ) → Good kind n k set body → Good kind n k set other
unfolding polygon_word dimension_good differs all word
words-redrawn kept n k set good = good
words-redrawn (drawn {x = x} {y = y} {v = v} j back whole) n k set good = at
  where
    Fits : ℤ → Type 0
    Fits w = on_scale w ≡ true

    each : Each Fits v
    each = each_of Fits v (negsuc 2147483647) (λ i h. rw (le-ltb (suc (suc i)) 2 (omega arith)) at (good (suc (suc i)) (omega arith)))

    at : (i : ℕ) → i < length (x ∷ (y ∷ redrawn j back v)) → body_word Polygon n k set (x ∷ (y ∷ redrawn j back v)) i ≡ true
    at zero h = good 0 (omega arith)
    at (suc zero) h = good 1 (omega arith)
    at (suc (suc i)) h =
        rw (le-ltb (suc (suc i)) 2 (omega arith)) (each_at Fits (each_redrawn Fits j back each) (negsuc 2147483647) i (omega arith))

-- ---- a step

module _ {p q : List ℤ} {at : ℕ} (s : StepRedrawn p q at) where
  pub next-same : next_at q at ≡ next_at p at
  unfolding next_at
  next-same = rw s.size

  pub head-same : (k set : ℕ) → head_run q k set at ≡ head_run p k set at
  unfolding head_run head_word_for
  head-same k set = first-same _ _ 0 4 (λ j l u. rw (s.kind, s.region, s.parent, s.size))

  in_same : (event : List ℤ) (bits : ℕ) → step_in q event bits at ≡ step_in p event bits at
  unfolding step_in
  in_same event bits = rw (s.parent, s.kind, shape-redrawn s.body event bits)

  on_same : (event : List ℤ) (bits : ℕ) → step_on q event bits at ≡ step_on p event bits at
  unfolding step_on
  on_same event bits = rw (in_same event bits, s.kind, on_redrawn s.body event)

  -- a body of good words, all there
  module _ (n k set : ℕ) (fits : next_at p at ≤ length p) (full : length_at p at ≤ body_run (kind_at p at) n k set (body_at p at)) where
    body-there : length (body_at p at) ≡ length_at p at
    unfolding body_at next_at
    body-there = let e = length_part p (at + 4) (length_at p at) in omega arith

    pub body_full : length_at q at ≤ body_run (kind_at q at) n k set (body_at q at)
    unfolding body_run
    body_full =
        let l = s.size in
        let b = length-body s.body in
        let t = body-there in
        let good = words-redrawn s.body n k set
        (λ i h. first-before (body_word (kind_at p at) n k set (body_at p at)) 0 (length (body_at p at)) i (omega arith) (omega arith)) in
        let e = first-none (body_word (kind_at p at) n k set (body_at q at)) 0 (length (body_at q at)) (λ j a u. good j (omega arith)) in
        rw s.kind (omega arith)

-- ---- the steps that are left

module _ (p q : List ℤ) where
  pub settled_same : (left : ℕ) (event : List ℤ) (bits at : ℕ) → StepsRedrawn left p q at → settled left q event bits at ≡ settled left p event bits at
  unfolding settled
  settled_same zero event bits at s = refl
  settled_same (suc left) event bits at s =
      rw (in_same s.0 event bits, s.0.region, next-same s.0)
      (settled_same left event (cond (step_in p event bits at) (with_bit bits (region_at p at)) bits) (next_at p at) s.1)

  pub outline-same : (left : ℕ) (event : List ℤ) (bits outline at : ℕ) → StepsRedrawn left p q at
      → outline_from left q event bits outline at ≡ outline_from left p event bits outline at
  unfolding outline_from
  outline-same zero event bits outline at s = refl
  outline-same (suc left) event bits outline at s =
      rw (in_same s.0 event bits, on_same s.0 event bits, s.0.region, next-same s.0)
      (outline-same left event (cond (step_in p event bits at) (with_bit bits (region_at p at)) bits)
      (cond (step_on p event bits at) (with_bit outline (region_at p at)) outline) (next_at p at) s.1)

  -- the words that are new to a float
  pub new-same : (f : Float) (left at i : ℕ) → StepsRedrawn left p q at → new_step_word f left q at i ≡ new_step_word f left p at i
  unfolding new_step_word
  new-same f zero at i s = refl
  new-same f (suc left) at i s = rw (next-same s.0, s.0.kind, new-same f left (next_at p at) i s.1)
