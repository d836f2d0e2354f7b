-- The bits that the plan of a table sets for an event are those of its members, and the outline bits those of the members on an outline.
use mathlib.Core.Path.{◌≡◌, refl, sym, ap, ap₂, ◌∙◌}
use mathlib.Core.Bool.{Bool, true, false, not, ◌&&◌, cond}
use mathlib.Core.Logic.{◌⊎◌, inl, inr, ⊎_elim}
use mathlib.Core.Option.{Option, none, some}
use mathlib.Core.List.Memᴰ
use mathlib.Core.List.Memᴰ.{head as here}
use mathlib.Core.List.{List, [], ◌∷◌, ◌++◌, map, append_assoc}
use Prim.Native.Nat.{ℕ, zero, suc, ◌<◌}
use native.Mathlib.Omega.{arith}
use lib.Dec.{eqb}
use lib.IntN.{ℤ, pos}
use lib.ListN.{length, get_or, length-map}
use borrow.Author.Tests.{eqb-true, eqb-false}
use Rattle.plans.specs.Indices.{all, any}
use Rattle.plans.specs.Words.{word, number}
use Rattle.integers.specs.Range.{in_range}
use Rattle.plans.specs.Bits.{has_bit, with_bit}
use Rattle.plans.specs.Form.{region_at, next_at, step_count}
use Rattle.plans.proofs.BitLaws.{has_with_same, has_with_other, no_bit}
use Rattle.plans.proofs.IndexLaws.{all_of, all_stop, any_stop}
use Rattle.counter.specs.Members.{operand_in, shape_in, parent_in, step_in, settled, bits_of}
use Rattle.counter.specs.Outlines.{shape_on, step_on, outline_from, outline_of}
use Rattle.counter.specs.Judging.{taken}
use Rattle.text.specs.Bytes.{every}
use Rattle.text.proofs.TestLaws.{true≢false, passed_or_failed}
use Rattle.gates.specs.Gate.{Name, Event, Operand, Shape, leaf, and_of, or_of, not_of, Region}
use Rattle.gates.proofs.GoodGate.{GoodShape}
use Rattle.tables.specs.Table.{◌∈◌, some_of, nth_region, number_of, parent_names, operand_names, references}
use Rattle.tables.specs.Members.{in_operand, in_shape, in_parent}
use Rattle.tables.specs.Outlines.{on_shape}
use Rattle.tables.specs.Further.Obeying.{Obeys}
use Rattle.tables.specs.Steps.{is_written, shape_kind, reference_word, body_words, parent_word, step_words, steps_words, order, plan_words}
use Rattle.tables.proofs.ListLaws.{every-fails, every-at, some-found, some_at, at_in, index_of, map_in}
use Rattle.tables.proofs.NameLaws.{region_in_lem, number-name, in_number}
use Rattle.tables.proofs.OrderLaws.{Orderly, Ordered, after, all_written, order-length, order-ordered}
use Rattle.tables.proofs.StepLaws.{kind-is, region-is, parent_is, body_is, next-is, no_operand, reference-there, reference-region, reference-odd}

-- ---- tests over indices, and over the elements at them

any_none : (test : ℕ → Bool) (n : ℕ) → ((i : ℕ) → i < n → test i ≡ false) → any test n ≡ false
unfolding any
any_none test zero h = refl
any_none test (suc n) h = rw (any_none test n (λ i l. h i (omega arith)), h n (omega arith))

module _ {A : Type 0} (d : A) (test : ℕ → Bool) (f : A → Bool) (l : List A) (alike : (i : ℕ) → i < length l → test i ≡ f (get_or l i d)) where
  all-every : all test (length l) ≡ every f l
  all-every = go (passed_or_failed (every f l))
    where
      go : (every f l ≡ true) ⊎ (every f l ≡ false) → all test (length l) ≡ every f l
      go (inl e) = rw e (all_of test (length l) (λ i h. alike i h ∙ every-at f (at_in d l i h) e))
      go (inr e) =
          let x = every-fails f l e in
          let i = index_of d l x.1 in
          rw e (all_stop test (length l) i.0 i.1 (alike i.0 i.1 ∙ ap f i.2 ∙ x.2))

  any_some : any test (length l) ≡ some_of f l
  any_some = go (passed_or_failed (some_of f l))
    where
      go : (some_of f l ≡ true) ⊎ (some_of f l ≡ false) → any test (length l) ≡ some_of f l
      go (inr e) = rw e (any_none test (length l) (λ i h. alike i h ∙ fails (get_or l i d) (at_in d l i h)))
        where
          fails : (x : A) → x ∈ l → f x ≡ false
          fails x m = ⊎_elim (λ t. absurd (true≢false (sym (some_at f m t) ∙ e))) (λ t. t) (passed_or_failed (f x))
      go (inl e) =
          let x = some-found f l e in
          let i = index_of d l x.1 in
          rw e (any_stop test (length l) i.0 i.1 (alike i.0 i.1 ∙ ap f i.2 ∙ x.2))

and_swap : (a b : Bool) → (a && b) ≡ (b && a)
and_swap true true = refl
and_swap true false = refl
and_swap false true = refl
and_swap false false = refl

-- one step further
settled_on : (left : ℕ) (p : List ℤ) (e : Event) (bits at region next : ℕ) (v : Bool) → region_at p at ≡ region → next_at p at ≡ next → step_in p e bits at ≡ v
    → settled (suc left) p e bits at ≡ settled left p e (cond v (with_bit bits region) bits) next
unfolding settled
settled_on left p e bits at region next v a b c = rw (a, b, c)

outline_on : (left : ℕ) (p : List ℤ) (e : Event) (bits outline at region next : ℕ) (v o : Bool) → region_at p at ≡ region → next_at p at ≡ next
    → step_in p e bits at ≡ v → step_on p e bits at ≡ o
    → outline_from (suc left) p e bits outline at ≡ outline_from left p e (cond v (with_bit bits region) bits) (cond o (with_bit outline region) outline) next
unfolding outline_from
outline_on left p e bits outline at region next v o a b c d = rw (a, b, c, d)

-- the bits of the regions that are written are as a test of the region says, and no other bit is set
record Right (test : ℕ → Bool) (k w bits : ℕ) : Type 0 where
  right : (r : ℕ) → r < k → has_bit w r ≡ true → has_bit bits r ≡ test r
  unset : (r : ℕ) → has_bit w r ≡ false → has_bit bits r ≡ false

-- where nothing is written
right-none : (test : ℕ → Bool) (k : ℕ) → Right test k 0 0
right-none test k = record { right = λ i _ b. absurd (true≢false (sym b ∙ no_bit i)); unset = λ i b. b }

-- one region more
module _ (test : ℕ → Bool) (k w bits : ℕ) (sets : Right test k w bits) (r : ℕ) (small : r < 64) (new : has_bit w r ≡ false) where
  other-bit : (v : Bool) (s : ℕ) → (s ≡ r → ⊥) → has_bit (cond v (with_bit bits r) bits) s ≡ has_bit bits s
  other-bit true s ne = has_with_other bits r small s ne
  other-bit false s ne = refl

  own-bit : (v : Bool) → has_bit (cond v (with_bit bits r) bits) r ≡ v
  own-bit true = has_with_same bits r small
  own-bit false = sets.unset r new

  right-next : Right test k (with_bit w r) (cond (test r) (with_bit bits r) bits)
  right-next = record { right = λ s l b. right' s l b (passed_or_failed (eqb s r)); unset = λ s b. unset' s b (passed_or_failed (eqb s r)) }
    where
      right' : (s : ℕ) → s < k → has_bit (with_bit w r) s ≡ true → (eqb s r ≡ true) ⊎ (eqb s r ≡ false)
          → has_bit (cond (test r) (with_bit bits r) bits) s ≡ test s
      right' s l b (inl t) = let q = eqb-true s r t in rw q (own-bit (test r))
      right' s l b (inr t) = other-bit (test r) s (eqb-false s r t) ∙ sets.right s l (sym (has_with_other w r small s (eqb-false s r t)) ∙ b)

      unset' : (s : ℕ) → has_bit (with_bit w r) s ≡ false → (eqb s r ≡ true) ⊎ (eqb s r ≡ false) → has_bit (cond (test r) (with_bit bits r) bits) s ≡ false
      unset' s b (inl t) = let q = eqb-true s r t in absurd (true≢false (sym (has_with_same w r small) ∙ (rw q at b)))
      unset' s b (inr t) = other-bit (test r) s (eqb-false s r t) ∙ sets.unset s (sym (has_with_other w r small s (eqb-false s r t)) ∙ b)

module _ (rs : List Region) (ok : Orderly rs) (n : ℕ) (good : (r : Region) → r ∈ rs → GoodShape n r.shape)
    (e : Event) (long : length e ≡ n) (take_in : taken e ≡ true) (m : Name → Bool) (obeys : Obeys rs e m) where
  -- ---- a step, where the bits of its references are right

  module _ (bits : ℕ) where
    operand_right : (os : List Operand) → ((k : Name) → k ∈ map (λ (o : Operand). o.name) os → has_bit bits (number_of rs k) ≡ m k)
        → (i : ℕ) → i < length os → operand_in bits (map (reference_word rs) os) i ≡ in_operand m (get_or os i no_operand)
    unfolding operand_in
    operand_right os h i l =
        let o = get_or os i no_operand in
        rw (reference-there rs os i l, reference-region rs o, reference-odd rs o, h o.name (map_in (λ (y : Operand). y.name) (at_in no_operand os i l)))

    shape-right : (s : Shape) → GoodShape n s → ((k : Name) → k ∈ operand_names s → has_bit bits (number_of rs k) ≡ m k)
        → shape_in (shape_kind s) e bits (body_words rs s) ≡ in_shape m e s
    shape-right (leaf l) g h = g.faithful e long take_in bits
    shape-right (and_of os) g h =
        ap (λ (k : ℕ). all (operand_in bits (map (reference_word rs) os)) k) (length-map os (reference_word rs))
        ∙ all-every no_operand (operand_in bits (map (reference_word rs) os)) (in_operand m) os (operand_right os h)
    shape-right (or_of os) g h =
        ap (λ (k : ℕ). any (operand_in bits (map (reference_word rs) os)) k) (length-map os (reference_word rs))
        ∙ any_some no_operand (operand_in bits (map (reference_word rs) os)) (in_operand m) os (operand_right os h)
    shape-right (not_of o) g h = ap not (operand_right (o ∷ []) h 0 (omega arith))

    parent-right : (p : Option Name) → ((k : Name) → k ∈ parent_names p → has_bit bits (number_of rs k) ≡ m k)
        → parent_in bits (parent_word rs p) ≡ in_parent m p
    unfolding parent_in in_range number
    parent-right none h = refl
    parent-right (some k) h = h k (here refl)

  shape_on_lem : (s : Shape) → GoodShape n s → shape_on (shape_kind s) e (body_words rs s) ≡ on_shape e s
  shape_on_lem (leaf l) g = g.outline_faithful e
  shape_on_lem (and_of os) g = refl
  shape_on_lem (or_of os) g = refl
  shape_on_lem (not_of o) g = refl

  -- ---- the bits of what is written: region r is as the equations say of its name, and for the outline its own shape too

  abbrev member_of : ℕ → Bool
  member_of r = m (nth_region rs r).name

  abbrev outline_member_of : ℕ → Bool
  outline_member_of r = m (nth_region rs r).name && on_shape e (nth_region rs r).shape

  module _ (w bits : ℕ) (sets : Right member_of (length rs) w bits) (r : ℕ) (h : r < length rs)
      (referred : (k : Name) → k ∈ references (nth_region rs r) → is_written rs w k ≡ true) where
    abbrev x : Region
    x = nth_region rs r

    small : r < 64
    small = let few = ok.few in omega arith

    reference-right : (k : Name) → k ∈ references x → has_bit bits (number_of rs k) ≡ m k
    unfolding is_written
    reference-right k i =
        let l = in_number rs k (ok.live x (region_in_lem rs r h) k i) in
        sets.right (number_of rs k) l (referred k i) ∙ ap m (sym (number-name rs k l))

    step_right : (before rest : List ℤ) → step_in (before ++ (step_words rs r ++ rest)) e bits (length before) ≡ member_of r
    unfolding step_in
    step_right before rest =
        rw (parent_is rs r before rest, kind-is rs r before rest, body_is rs r before rest)
        (ap₂ ◌&&◌ (parent-right bits x.parent (λ k i. reference-right k (Memᴰ.append_left (operand_names x.shape) i)))
        (shape-right bits x.shape (good x (region_in_lem rs r h)) (λ k i. reference-right k (Memᴰ.append_right (parent_names x.parent) i)))
        ∙ and_swap (in_parent m x.parent) (in_shape m e x.shape) ∙ sym (obeys x (region_in_lem rs r h)))

    step_on_lem : (before rest : List ℤ) → step_on (before ++ (step_words rs r ++ rest)) e bits (length before) ≡ outline_member_of r
    unfolding step_on
    step_on_lem before rest =
        rw (step_right before rest, kind-is rs r before rest, body_is rs r before rest, shape_on_lem x.shape (good x (region_in_lem rs r h)))

  -- ---- all steps

  steps-right : (o : List ℕ) (before : List ℤ) (w bits : ℕ) → Ordered rs w o → Right member_of (length rs) w bits
      → Right member_of (length rs) (after rs w o) (settled (length o) (before ++ steps_words rs o) e bits (length before))
  unfolding settled
  steps-right [] before w bits h s = s
  steps-right (r ∷ o) before w bits h s =
      rw (
        settled_on (length o) (before ++ (step_words rs r ++ steps_words rs o)) e bits (length before) r (length (before ++ step_words rs r)) (member_of r)
            (region-is rs r before (steps_words rs o)) (next-is rs r before (steps_words rs o))
            (step_right w bits s r h.0 h.2 before (steps_words rs o)),
        ← (append_assoc before (step_words rs r) (steps_words rs o)),
      )
      (steps-right o (before ++ step_words rs r) (with_bit w r) (cond (member_of r) (with_bit bits r) bits) h.3
      (right-next member_of (length rs) w bits s r (small w bits s r h.0 h.2) h.1))

  outlines-right : (o : List ℕ) (before : List ℤ) (w bits outline : ℕ) → Ordered rs w o
      → Right member_of (length rs) w bits → Right outline_member_of (length rs) w outline
      → Right outline_member_of (length rs) (after rs w o) (outline_from (length o) (before ++ steps_words rs o) e bits outline (length before))
  unfolding outline_from
  outlines-right [] before w bits outline h s t = t
  outlines-right (r ∷ o) before w bits outline h s t =
      let few = small w bits s r h.0 h.2 in
      rw (
        outline_on (length o) (before ++ (step_words rs r ++ steps_words rs o)) e bits outline (length before) r (length (before ++ step_words rs r))
            (member_of r) (outline_member_of r)
            (region-is rs r before (steps_words rs o)) (next-is rs r before (steps_words rs o))
            (step_right w bits s r h.0 h.2 before (steps_words rs o)) (step_on_lem w bits s r h.0 h.2 before (steps_words rs o)),
        ← (append_assoc before (step_words rs r) (steps_words rs o)),
      )
      (outlines-right o (before ++ step_words rs r) (with_bit w r) (cond (member_of r) (with_bit bits r) bits)
      (cond (outline_member_of r) (with_bit outline r) outline) h.3
      (right-next member_of (length rs) w bits s r few h.1) (right-next outline_member_of (length rs) w outline t r few h.1))

  -- the plan's bit of region r is what the equations give its name
  pub bits-right : (r : ℕ) → r < length rs → has_bit (bits_of (plan_words n rs) e) r ≡ m (nth_region rs r).name
  unfolding bits_of plan_words step_count word number
  bits-right r l =
      let s = steps-right (order rs) (pos n ∷ pos (length rs) ∷ []) 0 0 (order-ordered rs ok) (right-none member_of (length rs)) in
      ap (λ (k : ℕ). has_bit (settled k (pos n ∷ pos (length rs) ∷ steps_words rs (order rs)) e 0 2) r) (sym (order-length rs ok))
      ∙ s.right r l (all_written rs ok r l)

  -- and its outline bit that, where the event is on the outline of the region's own shape
  pub outline-right : (r : ℕ) → r < length rs → has_bit (outline_of (plan_words n rs) e) r ≡ (m (nth_region rs r).name && on_shape e (nth_region rs r).shape)
  unfolding outline_of plan_words step_count word number
  outline-right r l =
      let s = outlines-right (order rs) (pos n ∷ pos (length rs) ∷ []) 0 0 0 (order-ordered rs ok) (right-none member_of (length rs))
      (right-none outline_member_of (length rs)) in
      ap (λ (k : ℕ). has_bit (outline_from k (pos n ∷ pos (length rs) ∷ steps_words rs (order rs)) e 0 0 2) r) (sym (order-length rs ok))
      ∙ s.right r l (all_written rs ok r l)
