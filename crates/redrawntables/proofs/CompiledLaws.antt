-- The plans of alike regions: the same order of steps, each with its header, and bodies that are redrawn.
use mathlib.Core.Path.{◌≡◌, refl, sym, ap, ap₂, subst, ◌∙◌}
use mathlib.Core.Option.{Option, none, some}
use mathlib.Core.List.{List, [], ◌∷◌, ◌++◌, map, append_assoc}
use Prim.Native.Nat.{ℕ, zero, suc, ◌+◌}
use native.Mathlib.Omega.{arith}
use lib.IntN.{ℤ, pos}
use lib.ListN.{length, length-append}
use Rattle.plans.specs.Words.{word, number}
use Rattle.plans.specs.Bits.{with_bit}
use Rattle.plans.specs.Form.{kind_at, region_at, length_at, body_at, step_count}
use Rattle.plans.proofs.IndexLaws.{first-same}
use Rattle.gates.specs.Gate.{Name, Operand, Shape, leaf, and_of, or_of, not_of, Region}
use Rattle.tables.specs.Table.{no_region, nth_region, other_name, number_of, parent_names, operand_names, references}
use Rattle.tables.specs.Steps.{is_written, ready, waiting, next_region, order_from, order, shape_kind, reference_word, body_words, parent_word, step_words, steps_words, plan_words}
use Rattle.tables.proofs.OrderLaws.{Orderly, order-length}
use Rattle.tables.proofs.StepLaws.{kind-is, region-is, parent_is, length-is, body_is, next-is}
use Rattle.redrawn.proofs.StepLaws.{BodyRedrawn, kept as body_kept, StepRedrawn, StepsRedrawn, length-body}
use Rattle.redrawn.proofs.PlanLaws.{PlanRedrawn}
use Rattle.redrawntables.specs.Lines.{Along}
use Rattle.redrawntables.proofs.AlikeLaws.{everywhere, ShapeRedrawn, kept, drawn, RegionAlike, region-itself, along-length, along-at}

operands_same : {s u : Shape} → ShapeRedrawn s u → operand_names u ≡ operand_names s
operands_same kept = refl
operands_same (drawn e b) = refl

kind-same : {s u : Shape} → ShapeRedrawn s u → shape_kind u ≡ shape_kind s
kind-same kept = refl
kind-same (drawn e b) = e

module _ {rs ss : List Region} (a : Along RegionAlike rs ss) where
  region-at : (r : ℕ) → RegionAlike (nth_region rs r) (nth_region ss r)
  unfolding nth_region
  region-at r = along-at a no_region (region-itself no_region) r

  -- ---- numbers and order

  pub number_same : (n : Name) → number_of ss n ≡ number_of rs n
  unfolding number_of other_name
  number_same n = rw (along-length a) (first-same (other_name ss n) (other_name rs n) 0 (length rs) (λ r _ _. rw (region-at r).name))

  references-same : (r : ℕ) → references (nth_region ss r) ≡ references (nth_region rs r)
  references-same r = let x = region-at r in ap₂ ◌++◌ (ap parent_names x.parent) (operands_same x.shape)

  written_same : (written : ℕ) → is_written ss written ≡ is_written rs written
  unfolding is_written
  written_same written = everywhere (λ n. rw (number_same n))

  ready-same : (written r : ℕ) → ready ss written r ≡ ready rs written r
  unfolding ready
  ready-same written r = rw (references-same r, written_same written)

  next-same : (written : ℕ) → next_region ss written ≡ next_region rs written
  unfolding next_region waiting
  next-same written =
      rw (along-length a) (first-same (waiting ss written) (waiting rs written) 0 (length rs) (λ r _ _. rw (ready-same written r)))

  order-from-same : (k written : ℕ) → order_from k ss written ≡ order_from k rs written
  unfolding order_from
  order-from-same zero written = refl
  order-from-same (suc k) written = rw (next-same written, along-length a, order-from-same k (with_bit written (next_region rs written)))

  order_same : order ss ≡ order rs
  unfolding order
  order_same = rw (along-length a) (order-from-same (length rs) 0)

  -- ---- the words of a step

  parent-same : (p : Option Name) → parent_word ss p ≡ parent_word rs p
  parent-same none = refl
  parent-same (some n) = rw (number_same n)

  reference-same : (o : Operand) → reference_word ss o ≡ reference_word rs o
  reference-same o = rw (number_same o.name)

  own_body : (s : Shape) → body_words ss s ≡ body_words rs s
  own_body (leaf l) = refl
  own_body (and_of os) = ap (λ f. map f os) (everywhere reference-same)
  own_body (or_of os) = ap (λ f. map f os) (everywhere reference-same)
  own_body (not_of o) = ap (λ (w : ℤ). w ∷ []) (reference-same o)

  body-redrawn : {s u : Shape} → ShapeRedrawn s u → BodyRedrawn (shape_kind s) (body_words rs s) (body_words ss u)
  body-redrawn {s} kept = rw (own_body s) body_kept
  body-redrawn (drawn e b) = b

  here-redrawn : (r : ℕ)
      → BodyRedrawn (shape_kind (nth_region rs r).shape) (body_words rs (nth_region rs r).shape) (body_words ss (nth_region ss r).shape)
  here-redrawn r = body-redrawn (region-at r).shape

  step-length : (r : ℕ) → length (step_words ss r) ≡ length (step_words rs r)
  unfolding step_words
  step-length r = let e = length-body (here-redrawn r) in omega arith

  -- ---- where it stands in the plan: behind b in the one, behind c in the other

  module _ (r : ℕ) (b c d e : List ℤ) (l : length c ≡ length b) where
    abbrev p : List ℤ
    p = b ++ (step_words rs r ++ d)

    abbrev q : List ℤ
    q = c ++ (step_words ss r ++ e)

    step-redrawn : StepRedrawn p q (length b)
    step-redrawn =
        let x = region-at r in
        let n = length-body (here-redrawn r) in
        record {
          kind = ap (kind_at q) (sym l) ∙ kind-is ss r c e ∙ kind-same x.shape ∙ sym (kind-is rs r b d);
          region = ap (region_at q) (sym l) ∙ region-is ss r c e ∙ sym (region-is rs r b d);
          parent =
              ap (λ (i : ℕ). word q (i + 2)) (sym l) ∙ parent_is ss r c e
              ∙ parent-same (nth_region ss r).parent ∙ ap (parent_word rs) x.parent ∙ sym (parent_is rs r b d);
          size = ap (length_at q) (sym l) ∙ length-is ss r c e ∙ n ∙ sym (length-is rs r b d);
          body =
              let y : body_at q (length b) ≡ body_words ss (nth_region ss r).shape = ap (body_at q) (sym l) ∙ body_is ss r c e in
              rw (kind-is rs r b d, body_is rs r b d, y) (here-redrawn r);
        }

  steps-redrawn : (o : List ℕ) (b c : List ℤ) → length c ≡ length b → StepsRedrawn (length o) (b ++ steps_words rs o) (c ++ steps_words ss o) (length b)
  steps-redrawn [] b c l = tt
  steps-redrawn (r ∷ o) b c l =
      let n = step-length r in
      let m : length (c ++ step_words ss r) ≡ length (b ++ step_words rs r) = simp length-append (omega arith) in (
        step-redrawn r b c (steps_words rs o) (steps_words ss o) l,
        rw (next-is rs r b (steps_words rs o), ← append_assoc b (step_words rs r) (steps_words rs o), ← append_assoc c (step_words ss r) (steps_words ss o))
            (steps-redrawn o (b ++ step_words rs r) (c ++ step_words ss r) m),
      )

  steps-length : (o : List ℕ) → length (steps_words ss o) ≡ length (steps_words rs o)
  steps-length [] = refl
  steps-length (r ∷ o) = let n = step-length r in let m = steps-length o in simp length-append (omega arith)

  -- ---- the plan

  pub plan-length : (n : ℕ) → length (plan_words n ss) ≡ length (plan_words n rs)
  unfolding plan_words
  plan-length n = let k = steps-length (order rs) in rw order_same (omega arith)

  pub plan-alike : Orderly rs → (n : ℕ) → PlanRedrawn (plan_words n rs) (plan_words n ss)
  unfolding plan_words step_count word number
  plan-alike ok n =
      let z = along-length a in
      let front : List ℤ = pos n ∷ pos (length rs) ∷ [] in
      record {
        size = plan-length n;
        width = refl;
        count = rw z;
        steps = rw (order_same, z)
            (subst (λ (i : ℕ). StepsRedrawn i (front ++ steps_words rs (order rs)) (front ++ steps_words ss (order rs)) 2)
            (order-length rs ok) (steps-redrawn (order rs) front front refl));
      }
