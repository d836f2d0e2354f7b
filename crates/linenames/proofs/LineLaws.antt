-- The names of a gate line are those of its gate.
use mathlib.Core.Path.{◌≡◌, refl, sym, ap, ap₂, ◌∙◌}
use mathlib.Core.Bool.{Bool, true, false, not, cond, ◌&&◌, ◌||◌}
use mathlib.Core.Logic.{◌⊎◌, inl, inr}
use mathlib.Core.Option.{none, some}
use mathlib.Core.List.Memᴰ
use mathlib.Core.List.Memᴰ.{head as here}
use mathlib.Core.List.{List, [], ◌∷◌, ◌++◌, map}
use Prim.Native.Nat.{ℕ, zero, suc, ◌+◌, ◌-◌, ◌<◌, ◌≤◌, max}
use native.Mathlib.Omega.{arith}
use native.Mathlib.Decide.{dec_lt}
use lib.Dec.{ltb, eqb}
use lib.ListN.{length, get_or, length-map, get_or-map}
use lib.Seq.{ext_get_or}
use borrow.Author.Tests.{lt-ltb, ltb-true, eq-eqb, ne_eqb, eqb-true, not-true}
use Rattle.plans.specs.Indices.{first_bad}
use Rattle.plans.specs.Kinds.{spans}
use Rattle.plans.proofs.IndexLaws.{all-at, all_of, first-at, first-before, first-is, first-from}
use Rattle.text.specs.Bytes.{same}
use Rattle.text.specs.Bounded.{tab}
use Rattle.text.proofs.BytesLaws.{same_refl}
use Rattle.text.proofs.BoundedLaws.{length-tab, get_or-tab, tab_ext}
use Rattle.text.proofs.TestLaws.{true≢false, and_left, and_right}
use Rattle.gates.specs.Gate.{Name, Operand, Quadrant, Region, gate_regions}
use Rattle.gates.specs.Kinds.{field_at, line_kind, is_quad, is_none, operand_name}
use Rattle.gates.specs.Quads.{quadrant_count, quadrant_at}
use Rattle.gates.specs.Inner.Regions.{region_count, region_name, step_number, combines}
use Rattle.gates.specs.Meaning.{quadrant_of, operand_of, operands_of, body_of, parent_of, gate_of}
use Rattle.gates.specs.declared.LineKind.{LineKind}
use Rattle.gates.specs.declared.LineKind.TheVariants.{Quad, And, Or, Not, Unknown}
use Rattle.gates.proofs.GateLaws.{map-tab, region-count, region-at}
use Rattle.gates.proofs.LineSorts.{LineSort, drawn_line, quad_line, and_line, or_line, not_line, unknown_line, sort_of}
use Rattle.tables.specs.Table.{◌∈◌, some_of, no_region, quadrant_names, own_names, different, names, parent_names, body_references, gate_references}
use Rattle.tables.specs.Further.Rules.{Distinct}
use Rattle.tables.specs.Reaching.{is_in, refers_to}
use Rattle.tables.proofs.ListLaws.{both_ways, some_at, some-found, not-not}
use Rattle.tables.proofs.NameLaws.{same_not, distinct-at, at-distinct, different-distinct, distinct-different}
use Rattle.linenames.specs.Inner.LineNames.{other_region, region_named, names_region, quad_count, quadrant_name, other_quadrant, quadrant_named, gives_name, shares_quadrant, shares_name, new_quadrant, own_different, end_in, reference_end, has_reference, reference_at, passes_by, refers_line}
use Rattle.linenames.proofs.TabLaws.{tab_in, in_tab, found_some, any_some}

module _ (head fs : List (List ℕ)) where
  -- ---- names of regions

  pub names-listed : names (gate_regions (gate_of head fs)) ≡ tab (region_name fs) (region_count fs)
  names-listed = ext_get_or [] (names (gate_regions (gate_of head fs))) (tab (region_name fs) (region_count fs)) long each
    where
      named : Region → Name
      named r = r.name

      count : length (names (gate_regions (gate_of head fs))) ≡ region_count fs
      count = length-map (gate_regions (gate_of head fs)) named ∙ region-count head fs

      long : length (names (gate_regions (gate_of head fs))) ≡ length (tab (region_name fs) (region_count fs))
      long = count ∙ sym (length-tab (region_name fs) (region_count fs))

      each : (q : ℕ) → q < length (names (gate_regions (gate_of head fs)))
          → get_or (names (gate_regions (gate_of head fs))) q [] ≡ get_or (tab (region_name fs) (region_count fs)) q []
      each q h =
          let l : q < region_count fs = omega (arith, count) in
          get_or-map named (gate_regions (gate_of head fs)) q no_region ∙ ap named (region-at head fs q no_region l)
          ∙ sym (get_or-tab (region_name fs) [] (region_count fs) q l)

  pub names-region : (x : Name) → names_region fs x ≡ is_in (names (gate_regions (gate_of head fs))) x
  unfolding names_region region_named is_in other_region
  names-region x = rw names-listed (found_some (region_name fs) (region_count fs) (same x) (other_region fs x) (λ i. refl))

  -- ---- names given

  quadrants_in : (kind : LineKind) → LineSort head fs kind
      → quadrant_names (body_of head kind fs) ≡ tab (λ q. field_at fs (quadrant_at fs q)) (cond (is_quad kind) (quadrant_count fs) 0)
  quadrants_in kind (drawn_line d) = rw (d.body, d.alone)
  quadrants_in Quad quad_line = map-tab (λ (q : Quadrant). q.name) (quadrant_of head fs) (quadrant_count fs)
  quadrants_in And and_line = refl
  quadrants_in Or or_line = refl
  quadrants_in Not not_line = refl
  quadrants_in Unknown unknown_line = refl

  quad-inside : (q : ℕ) → q < quad_count fs → q < quadrant_count fs
  unfolding quad_count
  quad-inside q h = go (is_quad (line_kind fs)) h
    where
      go : (b : Bool) → q < cond b (quadrant_count fs) 0 → q < quadrant_count fs
      go true l = l
      go false l = absurd (omega arith)

  pub own-listed : own_names (gate_of head fs) ≡ field_at fs 1 ∷ tab (quadrant_name fs) (quad_count fs)
  unfolding gate_of quad_count quadrant_name
  own-listed =
      ap (λ (l : List Name). field_at fs 1 ∷ l)
      (quadrants_in (line_kind fs) (sort_of head fs (line_kind fs))
      ∙ tab_ext (λ q. field_at fs (quadrant_at fs q)) (quadrant_name fs) (quad_count fs) (λ q h. rw (lt-ltb q (quadrant_count fs) (quad-inside q h))))

  pub gives-name : (x : Name) → gives_name fs x ≡ is_in (own_names (gate_of head fs)) x
  unfolding gives_name quadrant_named is_in other_quadrant
  gives-name x =
      ap (λ (b : Bool). same x (field_at fs 1) || b) (found_some (quadrant_name fs) (quad_count fs) (same x) (other_quadrant fs x) (λ i. refl))
      ∙ sym (ap (λ (l : List Name). is_in l x) own-listed)

  -- ---- the names given are different

  own-distinct : own_different fs ≡ true → Distinct (field_at fs 1 ∷ tab (quadrant_name fs) (quad_count fs))
  unfolding own_different new_quadrant quadrant_named other_quadrant
  own-distinct e = at-distinct (field_at fs 1 ∷ tab (quadrant_name fs) (quad_count fs)) apart
    where
      long : length (tab (quadrant_name fs) (quad_count fs)) ≡ quad_count fs
      long = length-tab (quadrant_name fs) (quad_count fs)

      apart : (j k : ℕ) → j < k → k < suc (length (tab (quadrant_name fs) (quad_count fs)))
          → get_or (field_at fs 1 ∷ tab (quadrant_name fs) (quad_count fs)) j [] ≡ get_or (field_at fs 1 ∷ tab (quadrant_name fs) (quad_count fs)) k [] → ⊥
      apart j zero h l q = absurd (omega arith)
      apart zero (suc k) h l q =
          let b : k < quad_count fs = omega (arith, long) in
          let x = quadrant_name fs k in
          let y : field_at fs 1 ≡ x = q ∙ get_or-tab (quadrant_name fs) [] (quad_count fs) k b in
          let z : same x (field_at fs 1) ≡ false =
          not-true (same x (field_at fs 1))
          (and_left (not (same x (field_at fs 1))) (eqb (first_bad (other_quadrant fs x) 0 (quad_count fs)) k)
          (all-at (new_quadrant fs) (quad_count fs) e k b)) in
          true≢false (sym (rw y (same_refl x)) ∙ z)
      apart (suc j) (suc k) h l q =
          let b : k < quad_count fs = omega (arith, long) in
          let a : j < quad_count fs = omega (arith, b) in
          let x = quadrant_name fs k in
          let y : quadrant_name fs j ≡ x = sym (get_or-tab (quadrant_name fs) [] (quad_count fs) j a) ∙ q
          ∙ get_or-tab (quadrant_name fs) [] (quad_count fs) k b in
          let f : first_bad (other_quadrant fs x) 0 (quad_count fs) ≡ k =
          eqb-true (first_bad (other_quadrant fs x) 0 (quad_count fs)) k
          (and_right (not (same x (field_at fs 1))) (eqb (first_bad (other_quadrant fs x) 0 (quad_count fs)) k)
          (all-at (new_quadrant fs) (quad_count fs) e k b)) in
          let z : same x (quadrant_name fs j) ≡ false = not-true (same x (quadrant_name fs j))
          (first-before (other_quadrant fs x) 0 (quad_count fs) j (omega arith) (omega (arith, f))) in
          true≢false (sym (rw y (same_refl x)) ∙ z)

  distinct-own : Distinct (field_at fs 1 ∷ tab (quadrant_name fs) (quad_count fs)) → own_different fs ≡ true
  unfolding own_different new_quadrant quadrant_named other_quadrant
  distinct-own d = all_of (new_quadrant fs) (quad_count fs) each
    where
      ns : List Name
      ns = field_at fs 1 ∷ tab (quadrant_name fs) (quad_count fs)

      long : length (tab (quadrant_name fs) (quad_count fs)) ≡ quad_count fs
      long = length-tab (quadrant_name fs) (quad_count fs)

      at : (q : ℕ) → q < quad_count fs → get_or ns (suc q) [] ≡ quadrant_name fs q
      at q h = get_or-tab (quadrant_name fs) [] (quad_count fs) q h

      each : (q : ℕ) → q < quad_count fs
          → (not (same (quadrant_name fs q) (field_at fs 1)) && eqb (first_bad (other_quadrant fs (quadrant_name fs q)) 0 (quad_count fs)) q) ≡ true
      each q h =
          let a : same (quadrant_name fs q) (field_at fs 1) ≡ false =
          same_not (quadrant_name fs q) (field_at fs 1) (λ e. distinct-at ns d 0 (suc q) (omega arith) (omega (arith, long)) (sym e ∙ sym (at q h))) in
          let f : first_bad (other_quadrant fs (quadrant_name fs q)) 0 (quad_count fs) ≡ q =
          first-is (other_quadrant fs (quadrant_name fs q)) 0 (quad_count fs) q (omega arith) (omega arith)
          (λ j _ l.
          let b : same (quadrant_name fs q) (quadrant_name fs j) ≡ false = same_not (quadrant_name fs q) (quadrant_name fs j) (λ e.
          distinct-at ns d (suc j) (suc q) (omega arith) (omega (arith, long)) (at j (omega arith) ∙ sym e ∙ sym (at q h))) in
          rw b)
          (rw (same_refl (quadrant_name fs q))) in
          rw (a, f) (eq-eqb q q refl)

  pub own-different : own_different fs ≡ different (own_names (gate_of head fs))
  own-different =
      both_ways (own_different fs) (different (own_names (gate_of head fs)))
      (λ e. ap different own-listed ∙ distinct-different (field_at fs 1 ∷ tab (quadrant_name fs) (quad_count fs)) (own-distinct e))
      (λ e. distinct-own (different-distinct (field_at fs 1 ∷ tab (quadrant_name fs) (quad_count fs)) (sym (ap different own-listed) ∙ e)))

  -- ---- references

  combined : map (λ (o : Operand). o.name) (operands_of fs) ≡ tab (λ j. operand_name (field_at fs (3 + j))) (max 3 (length fs) - 3)
  combined =
      let e : max 3 (length fs) - 3 ≡ length fs - 3 = omega arith in
      map-tab (λ (o : Operand). o.name) (λ j. operand_of (field_at fs (3 + j))) (length fs - 3) ∙ rw e

  pub end_past : 2 < reference_end fs
  unfolding reference_end
  end_past = go (combines (line_kind fs)) (eqb (step_number (line_kind fs)) 6)
    where
      go : (some single : Bool) → 2 < cond some (cond single 4 (max 3 (length fs))) 3
      go true true = omega arith
      go true false = omega arith
      go false single = omega arith

  operands_in : (kind : LineKind) → LineSort head fs kind
      → body_references (body_of head kind fs) ≡ tab (λ j. operand_name (field_at fs (3 + j))) (end_in kind (length fs) - 3)
  unfolding spans
  operands_in kind (drawn_line d) = rw (d.body, d.uncombined)
  operands_in Quad quad_line = refl
  operands_in And and_line = combined
  operands_in Or or_line = combined
  operands_in Not not_line = refl
  operands_in Unknown unknown_line = refl

  -- the parent's name, then the operands'
  pub references-listed : gate_references (gate_of head fs)
      ≡ parent_names (parent_of (field_at fs 2)) ++ tab (λ j. operand_name (field_at fs (3 + j))) (reference_end fs - 3)
  unfolding gate_of reference_end
  references-listed = ap (λ (l : List Name). parent_names (parent_of (field_at fs 2)) ++ l) (operands_in (line_kind fs) (sort_of head fs (line_kind fs)))

  -- the fields from 2 on hold the references
  pub reference_in : (k : ℕ) → 2 ≤ k → k < reference_end fs → has_reference fs k ≡ true → reference_at fs k ∈ gate_references (gate_of head fs)
  unfolding has_reference reference_at parent_of
  reference_in k l h e = rw references-listed (go (dec_lt 2 k))
    where
      parent : (b : Bool) → not b ≡ true → field_at fs 2 ∈ parent_names (cond b none (some (field_at fs 2)))
      parent true q = absurd (true≢false (sym q))
      parent false q = here refl

      go : Dec (2 < k) → cond (eqb k 2) (field_at fs 2) (operand_name (field_at fs k)) ∈
          (parent_names (parent_of (field_at fs 2)) ++ tab (λ j. operand_name (field_at fs (3 + j))) (reference_end fs - 3))
      go (yes u) =
          let q : k ≡ 3 + (k - 3) = omega arith in
          rw (ne_eqb k 2 (λ z. omega arith))
          (Memᴰ.append_right (parent_names (parent_of (field_at fs 2)))
          (Memᴰ.cast (ap (λ (i : ℕ). operand_name (field_at fs i)) q)
          (tab_in (λ j. operand_name (field_at fs (3 + j))) (reference_end fs - 3) (k - 3) (omega arith))))
      go (no u) =
          let q : k ≡ 2 = omega arith in
          rw (eq-eqb k 2 q) (Memᴰ.append_left (tab (λ j. operand_name (field_at fs (3 + j))) (reference_end fs - 3))
          (parent (is_none (field_at fs 2)) (rw (eq-eqb k 2 q) at e)))

  pub in_reference : {n : Name} → n ∈ gate_references (gate_of head fs)
      → (k : ℕ) × (2 ≤ k) × (k < reference_end fs) × (has_reference fs k ≡ true) × (reference_at fs k ≡ n)
  unfolding has_reference reference_at parent_of
  in_reference {n} m = go (Memᴰ.append_cases (parent_names (parent_of (field_at fs 2))) (rw references-listed at m))
    where
      parent : (b : Bool) → n ∈ parent_names (cond b none (some (field_at fs 2))) → (not b ≡ true) × (field_at fs 2 ≡ n)
      parent true q = absurd (Memᴰ.not-nil q)
      parent false q = (refl, sym (Memᴰ.eq_of_singleton q))

      go : (n ∈ parent_names (parent_of (field_at fs 2))) ⊎ (n ∈ tab (λ j. operand_name (field_at fs (3 + j))) (reference_end fs - 3))
          → (k : ℕ) × (2 ≤ k) × (k < reference_end fs) × (not (eqb k 2 && is_none (field_at fs 2)) ≡ true) ×
          (cond (eqb k 2) (field_at fs 2) (operand_name (field_at fs k)) ≡ n)
      go (inl u) = let w = parent (is_none (field_at fs 2)) u in (2, omega arith, end_past, w.0, w.1)
      go (inr u) =
          let w = in_tab (λ j. operand_name (field_at fs (3 + j))) (reference_end fs - 3) u in
          let i : w.0 < reference_end fs - 3 = w.1 in
          let z : eqb (3 + w.0) 2 ≡ false = ne_eqb (3 + w.0) 2 (λ q. omega arith) in
          (3 + w.0, omega arith, omega arith, rw z, rw z w.2)

module _ (head fs gs : List (List ℕ)) where
  pub shares_name_lem : shares_name fs gs ≡ some_of (is_in (own_names (gate_of head gs))) (own_names (gate_of head fs))
  unfolding shares_name shares_quadrant
  shares_name_lem =
      ap₂ ◌||◌ (gives-name head gs (field_at fs 1))
      (any_some (quadrant_name fs) (is_in (own_names (gate_of head gs))) (shares_quadrant fs gs) (λ q. gives-name head gs (quadrant_name fs q)) (quad_count fs))
      ∙ sym (ap (λ (l : List Name). some_of (is_in (own_names (gate_of head gs))) l) (own-listed head fs))

  pub refers-line : refers_line fs gs ≡ refers_to (gate_of head fs) (gate_of head gs)
  unfolding refers_line refers_to passes_by
  refers-line = both_ways (refers_line fs gs) (refers_to (gate_of head fs) (gate_of head gs)) there back
    where
      named : Name → Bool
      named = is_in (names (gate_regions (gate_of head gs)))

      first : ℕ
      first = first_bad (passes_by fs gs) 2 (reference_end fs - 2)

      there : ltb first (reference_end fs) ≡ true → some_of named (gate_references (gate_of head fs)) ≡ true
      there e =
          let l : first < reference_end fs = ltb-true first (reference_end fs) e in
          let u : 2 ≤ first = first-from (passes_by fs gs) 2 (reference_end fs - 2) in
          let b : (has_reference fs first && names_region gs (reference_at fs first)) ≡ true =
          not-not (has_reference fs first && names_region gs (reference_at fs first)) (first-at (passes_by fs gs) 2 (reference_end fs - 2) (omega arith)) in
          some_at named (reference_in head fs first u l (and_left (has_reference fs first) (names_region gs (reference_at fs first)) b))
          (sym (names-region head gs (reference_at fs first)) ∙ and_right (has_reference fs first) (names_region gs (reference_at fs first)) b)

      back : some_of named (gate_references (gate_of head fs)) ≡ true → ltb first (reference_end fs) ≡ true
      back e =
          let w = some-found named (gate_references (gate_of head fs)) e in
          let r = in_reference head fs w.1 in
          lt-ltb first (reference_end fs)
          (go r.0 r.1 r.2 r.3 (names-region head gs (reference_at fs r.0) ∙ ap named r.4 ∙ w.2) (dec_lt first (reference_end fs)))
        where
          go : (k : ℕ) → 2 ≤ k → k < reference_end fs → has_reference fs k ≡ true → names_region gs (reference_at fs k) ≡ true → Dec (first < reference_end fs)
              → first < reference_end fs
          go k l h a n (yes u) = u
          go k l h a n (no u) =
              absurd (true≢false (sym (first-before (passes_by fs gs) 2 (reference_end fs - 2) k l (omega arith)) ∙ rw (a, n)))
