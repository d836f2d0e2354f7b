-- The plan of a table that keeps the rules has the form.
use mathlib.Core.Path.{◌≡◌, refl, sym, ap, ◌∙◌}
use mathlib.Core.Bool.{true, false}
use mathlib.Core.Option.{Option, none, some}
use mathlib.Core.List.Memᴰ
use mathlib.Core.List.Memᴰ.{head as here}
use mathlib.Core.List.{List, [], ◌∷◌, ◌++◌, map, append_assoc}
use Prim.Native.Nat.{ℕ, zero, suc, ◌<◌, ◌≤◌}
use native.Mathlib.Omega.{arith}
use lib.IntN.{ℤ, pos, negsuc}
use lib.ListN.{length, get_or, length-append, length-map}
use borrow.Author.Tests.{lt-ltb, le-ltb, le-leb}
use Rattle.plans.specs.Indices.{first_bad}
use Rattle.plans.specs.Words.{word, number}
use Rattle.std.specs.Prelude.{Result, Ok, Err}
use Rattle.integers.specs.Range.{in_range}
use Rattle.plans.specs.Bits.{has_bit, with_bit}
use Rattle.plans.specs.Refusals.{passed, refusal}
use Rattle.plans.specs.Form.{earlier, free, parent_good, operand_word, body_word, head_word_for, head_word, width, step_count}
use Rattle.plans.specs.Kinds.{spans, length_good}
use Rattle.plans.specs.Inner.Reader.{head_run, body_run, step_form, steps_form, read_form}
use Rattle.plans.specs.declared.Refusal.{Refusal}
use Rattle.plans.specs.declared.form.Formed.{Formed}
use Rattle.plans.proofs.IndexLaws.{first-none}
use Rattle.gates.specs.Gate.{Name, Operand, Shape, leaf, and_of, or_of, not_of, Region}
use Rattle.gates.proofs.GoodGate.{GoodShape}
use Rattle.tables.specs.Table.{◌∈◌, nth_region, number_of, parent_names, operand_names, references}
use Rattle.tables.specs.Steps.{is_written, shape_kind, reference_word, body_words, parent_word, step_words, steps_words, order, plan_words}
use Rattle.tables.proofs.ListLaws.{or_right, at_in, map_in}
use Rattle.tables.proofs.NameLaws.{region_in_lem, in_number}
use Rattle.tables.proofs.OrderLaws.{Orderly, Ordered, order-length, order-ordered}
use Rattle.plans.proofs.KindLaws.{length-known}
use Rattle.tables.proofs.StepLaws.{kind-is, region-is, parent_is, length-is, body_is, next-is, no_operand, reference-there, reference-region}

below-four : (P : ℕ → Type 0) → P 0 → P 1 → P 2 → P 3 → (j : ℕ) → j < 4 → P j
below-four P a b c d zero h = a
below-four P a b c d (suc zero) h = b
below-four P a b c d (suc (suc zero)) h = c
below-four P a b c d (suc (suc (suc zero))) h = d
below-four P a b c d (suc (suc (suc (suc j)))) h = absurd (omega arith)

spans-true : (lo hi m : ℕ) → lo ≤ m → m ≤ hi → spans lo hi m ≡ true
unfolding spans
spans-true lo hi m a b = rw (le-leb lo m a, le-leb m hi b)

-- a good step is passed over
steps_on : (left : ℕ) (p : List ℤ) (n k set at region next : ℕ) → step_form p n k set at ≡ Ok (record { region = region; next = next })
    → steps_form (suc left) p n k set at ≡ steps_form left p n k (with_bit set region) next
unfolding steps_form
steps_on left p n k set at region next e =
    ap (λ (s : Result Formed Refusal). elim s [ Ok f ↦ steps_form left p n k (with_bit set f.region) f.next | Err r ↦ refusal r ]) e

module _ (rs : List Region) (ok : Orderly rs) (n : ℕ) (good : (r : Region) → r ∈ rs → GoodShape n r.shape) where
  -- ---- one step, where its references are set

  shape-length : (s : Shape) → GoodShape n s → length_good (shape_kind s) (length (body_words rs s)) ≡ true
  unfolding spans
  shape-length (leaf l) g = g.length_good_lem
  shape-length (and_of os) g = rw (length-map os (reference_word rs), le-leb 2 (length os) g.0, le-leb (length os) 63 g.1)
  shape-length (or_of os) g = rw (length-map os (reference_word rs), le-leb 2 (length os) g.0, le-leb (length os) 63 g.1)
  shape-length (not_of o) g = refl

  module _ (set r : ℕ) (h : r < length rs) (new : has_bit set r ≡ false)
      (referred : (m : Name) → m ∈ references (nth_region rs r) → is_written rs set m ≡ true) where
    abbrev x : Region
    x = nth_region rs r

    -- a name that is referred to is a region set earlier
    set-earlier : (m : Name) → m ∈ references x → earlier (length rs) set (number_of rs m) ≡ true
    unfolding earlier is_written
    set-earlier m i = rw (lt-ltb (number_of rs m) (length rs) (in_number rs m (ok.live x (region_in_lem rs r h) m i)), referred m i)

    parent-good : (p : Option Name) → ((m : Name) → m ∈ parent_names p → m ∈ references x) → parent_good (length rs) set (parent_word rs p) ≡ true
    unfolding parent_good in_range number
    parent-good none i = refl
    parent-good (some m) i =
        or_right (in_range (negsuc 0) (negsuc 0) (pos (number_of rs m))) (earlier (length rs) set (number_of rs m)) (set-earlier m (i m (here refl)))

    operands-good : (os : List Operand) → ((m : Name) → m ∈ map (λ (o : Operand). o.name) os → m ∈ references x)
        → (i : ℕ) → i < length (map (reference_word rs) os) → operand_word (length rs) set (map (reference_word rs) os) i ≡ true
    unfolding operand_word
    operands-good os j i l =
        let e = length-map os (reference_word rs) in
        let b : i < length os = omega arith in
        rw (reference-there rs os i b, reference-region rs (get_or os i no_operand))
        (set-earlier (get_or os i no_operand).name (j (get_or os i no_operand).name (map_in (λ (o : Operand). o.name) (at_in no_operand os i b))))

    body-good : (s : Shape) → GoodShape n s → ((m : Name) → m ∈ operand_names s → m ∈ references x)
        → (i : ℕ) → i < length (body_words rs s) → body_word (shape_kind s) n (length rs) set (body_words rs s) i ≡ true
    body-good (leaf l) g j i b = g.words_good (length rs) set i b
    body-good (and_of os) g j i b = operands-good os j i b
    body-good (or_of os) g j i b = operands-good os j i b
    body-good (not_of o) g j i b = operands-good (o ∷ []) j i b

    module _ (before rest : List ℤ) where
      abbrev p : List ℤ
      p = before ++ (step_words rs r ++ rest)

      abbrev body : List ℤ
      body = body_words rs x.shape

      shape-good : GoodShape n x.shape
      shape-good = good x (region_in_lem rs r h)

      head-good : (j : ℕ) → j < 4 → head_word p (length rs) set (length before) j ≡ true
      unfolding head_word_for free
      head-good = below-four (λ j. head_word p (length rs) set (length before) j ≡ true)
          (rw (kind-is rs r before rest) (length-known (shape_kind x.shape) (length body) (shape-length x.shape shape-good)))
          (rw (region-is rs r before rest, lt-ltb r (length rs) h, new))
          (rw (parent_is rs r before rest) (parent-good x.parent (λ m i. Memᴰ.append_left (operand_names x.shape) i)))
          (rw (kind-is rs r before rest, length-is rs r before rest) (shape-length x.shape shape-good))

      step-good : step_form p n (length rs) set (length before)
          ≡ Ok (record { region = r; next = length (before ++ step_words rs r) })
      unfolding step_form head_run body_run
      step-good =
          let a : first_bad (head_word p (length rs) set (length before)) 0 4 ≡ 4 =
          first-none (head_word p (length rs) set (length before)) 0 4 (λ j _ b. head-good j b) in
          let b : first_bad (body_word (shape_kind x.shape) n (length rs) set body) 0 (length body) ≡ length body =
          first-none (body_word (shape_kind x.shape) n (length rs) set body) 0 (length body)
          (λ j _ l. body-good x.shape shape-good (λ m i. Memᴰ.append_right (parent_names x.parent) i) j (omega arith)) ∙ omega arith in
          rw (
            a,
            kind-is rs r before rest,
            body_is rs r before rest,
            b,
            length-is rs r before rest,
            le-ltb (length body) (length body) (omega arith),
            region-is rs r before rest,
            next-is rs r before rest,
          )

  -- ---- all steps

  steps-pass : (o : List ℕ) (before : List ℤ) (set : ℕ) → Ordered rs set o
      → steps_form (length o) (before ++ steps_words rs o) n (length rs) set (length before) ≡ passed
  unfolding steps_form
  steps-pass [] before set h = rw (le-ltb (length before) (length (before ++ [])) (simp length-append (omega arith)))
  steps-pass (r ∷ o) before set h =
      steps_on (length o) _ n (length rs) set (length before) r (length (before ++ step_words rs r))
      (step-good set r h.0 h.1 h.2 before (steps_words rs o))
      ∙ ap (λ (p : List ℤ). steps_form (length o) p n (length rs) (with_bit set r) (length (before ++ step_words rs r)))
      (sym (append_assoc before (step_words rs r) (steps_words rs o)))
      ∙ steps-pass o (before ++ step_words rs r) (with_bit set r) h.3

  pub plan_reads : 1 ≤ n → n ≤ 8 → length (plan_words n rs) ≤ 4096 → read_form (plan_words n rs) ≡ passed
  unfolding read_form plan_words width step_count word number
  plan_reads a b l =
      let s : steps_form (length rs) (pos n ∷ pos (length rs) ∷ steps_words rs (order rs)) n (length rs) 0 2 ≡ passed =
      ap (λ (k : ℕ). steps_form k (pos n ∷ pos (length rs) ∷ steps_words rs (order rs)) n (length rs) 0 2) (sym (order-length rs ok))
      ∙ steps-pass (order rs) (pos n ∷ pos (length rs) ∷ []) 0 (order-ordered rs ok) in
      rw (
        le-ltb 4096 (length (pos n ∷ pos (length rs) ∷ steps_words rs (order rs))) l,
        spans-true 1 8 n a b,
        spans-true 0 64 (length rs) (omega arith) ok.few,
      )
      s
