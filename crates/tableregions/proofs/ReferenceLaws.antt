-- The regions that a region refers to, gathered field by field.
use mathlib.Core.Path.{◌≡◌, refl, sym, ap, ◌∙◌}
use mathlib.Core.Bool.{Bool, true, false, cond, not, ◌||◌, ◌&&◌}
use mathlib.Core.Logic.{⊎_elim}
use mathlib.Core.Option.{none, some}
use mathlib.Core.List.Memᴰ.{head as here}
use mathlib.Core.List.Memᴰ.{tail as there}
use mathlib.Core.List.{List, [], ◌∷◌, ◌++◌, append_assoc}
use Prim.Native.Nat.{ℕ, suc, ◌+◌, ◌-◌, ◌<◌, ◌≤◌, min}
use native.Mathlib.Omega.{arith}
use native.Mathlib.Decide.{dec_lt}
use lib.Dec.{eqb, ltb}
use lib.ListN.{length}
use borrow.Author.Tests.{eqb-true, eqb-false, eq-eqb, ne_eqb, ltb-true, lt-ltb, le-ltb}
use Rattle.plans.specs.Bits.{has_bit, with_bit}
use Rattle.plans.proofs.BitLaws.{has_with_same, has_with_other, no_bit}
use Rattle.text.specs.Bounded.{tab}
use Rattle.text.specs.Lines.{fields}
use Rattle.text.proofs.BoundedLaws.{get_or-tab}
use Rattle.text.proofs.TestLaws.{passed_or_failed}
use Rattle.gates.specs.Kinds.{field_at, line_kind, is_none, operand_name}
use Rattle.gates.specs.Gate.{Name, Body, one, quad, Region}
use Rattle.gates.specs.Meaning.{body_of, parent_of, gate_of}
use Rattle.gates.specs.Inner.Regions.{region_count, body_shape, region_shape}
use Rattle.tables.specs.Table.{◌∈◌, some_of, nth_region, number_of, operand_names, parent_names, body_references, gate_references, references}
use Rattle.tables.specs.Head.{dimensions}
use Rattle.tables.specs.Refusals.{is_region, living}
use Rattle.tables.proofs.ListLaws.{every-at}
use Rattle.graph.specs.Inner.Rows.{bit_at, Referring}
use Rattle.linenames.specs.Inner.LineNames.{reference_end, has_reference, reference_at}
use Rattle.linenames.proofs.LineLaws.{references-listed}
use Rattle.resolve.specs.Inner.Reading.{line_at, fields_at, gates_at, regions_at}
use Rattle.resolve.proofs.ReadLaws.{gate_at, gates-nth, region-read}
use Rattle.tableregions.specs.Inner.Settled.{Settled}
use Rattle.tableregions.specs.Inner.Located.{located_at, with_numbers, row_of}
use Rattle.tableregions.specs.declared.Located.{Located}
use Rattle.tableregions.proofs.PlaceLaws.{place_is, quadrant-inside, gate_inside}

-- ---- each region of a gate refers to what the gate refers to

same_references : (head fs : List (List ℕ)) (q : ℕ) (b : Body) → operand_names (body_shape head fs q b) ≡ body_references b
same_references head fs q (one s) = refl
same_references head fs q (quad qs) = refl

region-references : (text starts : List ℕ) (n i : ℕ) → i < n → (q : ℕ) → q < region_count (fields_at text starts i)
    → references (nth_region (regions_at text starts n) (length (regions_at text starts i) + q)) ≡ gate_references (gate_at text starts i)
unfolding region_shape gate_of
region-references text starts n i h q l =
    let fs = fields_at text starts i in
    ap references (region-read text starts n i h q l)
    ∙ ap (λ (x : List Name). parent_names (parent_of (field_at fs 2)) ++ x)
    (same_references (dimensions text) fs q (body_of (dimensions text) (line_kind fs) fs))

-- the references of a region are those of the gate that it stands at
pub located_references : (text starts : List ℕ) (n r : ℕ) {x : Located} → x ≡ located_at text starts n r → x.gate < n
    → references (nth_region (regions_at text starts n) r) ≡ gate_references (gate_at text starts x.gate)
located_references text starts n r {x} e h =
    ap (λ (k : ℕ). references (nth_region (regions_at text starts n) k)) (place_is text starts n r e)
    ∙ region-references text starts n x.gate h x.quadrant (quadrant-inside text starts n r e h)

-- ---- one name more

with_last : (rs : List Region) (set : ℕ) (l : List Name) (x : Name) → with_numbers rs set (l ++ (x ∷ [])) ≡ with_bit (with_numbers rs set l) (number_of rs x)
with_last rs set [] x = refl
with_last rs set (y ∷ l) x = with_last rs (with_bit set (number_of rs y)) l x

-- a number that is held at 64 puts the same into a set
held_number : (set m : ℕ) → with_bit set (min 64 m) ≡ with_bit set m
unfolding with_bit
held_number set m = go (dec_lt m 64)
  where
    go : Dec (m < 64) → with_bit set (min 64 m) ≡ with_bit set m
    go (yes h) = let z : min 64 m ≡ m = omega arith in rw z
    go (no h) = rw (le-ltb (min 64 m) 64 (omega arith), le-ltb m 64 (omega arith))

-- ---- the names in the fields from 2 to k

module _ (rs : List Region) (fs : List (List ℕ)) where
  -- of none, then of the parent and the operands before field k
  abbrev pub Gathered : ℕ → ℕ → Type 0
  Gathered k row =
      row ≡ cond (ltb 2 k) (with_numbers rs 0 (parent_names (parent_of (field_at fs 2)) ++ tab (λ j. operand_name (field_at fs (3 + j))) (k - 3))) 0

  module _ (k row : ℕ) (low : 2 ≤ k) (g : Gathered k row) {y : Name} (f : y ≡ reference_at fs k) {m : ℕ} (n : m ≡ min 64 (number_of rs y)) {b : Bool}
      (o : b ≡ has_reference fs k) {new : ℕ} (w : new ≡ cond b (with_bit row m) row) where
    put : new ≡ cond (has_reference fs k) (with_bit row (number_of rs (reference_at fs k))) row
    put = w ∙ rw (n, held_number row (number_of rs y), o, f)

    -- one field more
    pub gathered-more : Gathered (k + 1) new
    unfolding has_reference reference_at parent_of
    gathered-more = rw (lt-ltb 2 (k + 1) (omega arith)) (go (dec_lt 2 k))
      where
        parent : (c : Bool) → cond (not (true && c)) (with_bit 0 (number_of rs (field_at fs 2))) 0
            ≡ with_numbers rs 0 (parent_names (cond c none (some (field_at fs 2))) ++ [])
        parent true = refl
        parent false = refl

        go : Dec (2 < k) → new ≡ with_numbers rs 0 (parent_names (parent_of (field_at fs 2)) ++ tab (λ j. operand_name (field_at fs (3 + j))) (k + 1 - 3))
        go (yes h) =
            let z : k + 1 - 3 ≡ suc (k - 3) = omega arith in
            let u : 3 + (k - 3) ≡ k = omega arith in
            let names = parent_names (parent_of (field_at fs 2)) in
            let held : row ≡ with_numbers rs 0 (names ++ tab (λ j. operand_name (field_at fs (3 + j))) (k - 3)) = g ∙ rw (lt-ltb 2 k h) in
            put ∙ rw (ne_eqb k 2 (λ e. omega arith), held, z)
            (sym (ap (with_numbers rs 0)
            (sym (append_assoc names (tab (λ j. operand_name (field_at fs (3 + j))) (k - 3)) (operand_name (field_at fs (3 + (k - 3))) ∷ [])))
            ∙ with_last rs 0 (names ++ tab (λ j. operand_name (field_at fs (3 + j))) (k - 3)) (operand_name (field_at fs (3 + (k - 3)))) ∙ rw u))
        go (no h) =
            let z : k ≡ 2 = omega arith in
            let u : k + 1 - 3 ≡ 0 = omega arith in
            let held : row ≡ 0 = g ∙ rw (le-ltb 2 k (omega arith)) in
            put ∙ rw (eq-eqb k 2 z, held, u) (parent (is_none (field_at fs 2)))

-- after the last field
pub gathered-all : (text starts : List ℕ) (n r : ℕ) {x : Located} → x ≡ located_at text starts n r → x.gate < n → {line : List ℕ}
    → line ≡ line_at text starts x.gate
    → {end : ℕ} → (end ≡ reference_end (fields line)) × (3 ≤ end) → (k row : ℕ) → k ≡ end → Gathered (regions_at text starts n) (fields line) k row
    → row ≡ row_of (regions_at text starts n) r
unfolding row_of fields_at
gathered-all text starts n r {x} e h {line} l {end} d k row z g =
    g ∙ rw (lt-ltb 2 k (omega (arith, z, d.1)), z, d.0, l)
    (sym (ap (with_numbers (regions_at text starts n) 0) (located_references text starts n r e h
    ∙ references-listed (dimensions text) (fields (line_at text starts x.gate)))))

-- ---- the rows of a table that is settled are those of its references

or_false : (b : Bool) → (b || false) ≡ b
or_false true = refl
or_false false = refl

with_bit_lem : (set m k : ℕ) → m < 64 → has_bit (with_bit set m) k ≡ (has_bit set k || eqb m k)
with_bit_lem set m k h =
    ⊎_elim (λ e. let z : k ≡ m = eqb-true k m e in rw (z, has_with_same set m h, eq-eqb m m refl) (sym (or_true (has_bit set m))))
    (λ e. let ne = eqb-false k m e in rw (has_with_other set m h k ne, ne_eqb m k (λ z. ne (sym z))) (sym (or_false (has_bit set k))))
    (passed_or_failed (eqb k m))
  where
    or_true : (b : Bool) → (b || true) ≡ true
    or_true true = refl
    or_true false = refl

with_numbers_lem : (rs : List Region) (k : ℕ) (l : List Name) → ((x : Name) → x ∈ l → number_of rs x < 64) → (set : ℕ)
    → has_bit (with_numbers rs set l) k ≡ (has_bit set k || some_of (λ (x : Name). eqb (number_of rs x) k) l)
with_numbers_lem rs k [] h set = sym (or_false (has_bit set k))
with_numbers_lem rs k (x ∷ l) h set =
    with_numbers_lem rs k l (λ y m. h y (there m)) (with_bit set (number_of rs x))
    ∙ rw (with_bit_lem set (number_of rs x) k (h x (here refl))) (or_or (has_bit set k))
  where
    or_or : (b : Bool) → ((b || eqb (number_of rs x) k) || some_of (λ (y : Name). eqb (number_of rs y) k) l)
        ≡ (b || (eqb (number_of rs x) k || some_of (λ (y : Name). eqb (number_of rs y) k) l))
    or_or true = refl
    or_or false = refl

module _ (text starts : List ℕ) (n : ℕ) (s : Settled text starts n) where
  alive-at : (r : ℕ) → r < length (regions_at text starts n) → (x : Name) → x ∈ references (nth_region (regions_at text starts n) r)
      → number_of (regions_at text starts n) x < 64
  unfolding living is_region
  alive-at r h x m =
      let at = located_at text starts n r in
      let inside : at.gate < n = gate_inside text starts n r refl h in
      let listed = located_references text starts n r {x = at} refl inside ∙ sym (ap gate_references (gates-nth text starts n at.gate inside)) in
      let few = s.few in
      omega (
        arith,
        few,
        ltb-true (number_of (regions_at text starts n) x) (length (regions_at text starts n))
            (every-at (is_region (gates_at text starts n)) (rw listed at m) (s.alive at.gate inside)),
      )

  pub referring : Referring (regions_at text starts n) (tab (row_of (regions_at text starts n)) 64)
  unfolding bit_at row_of
  referring r k h =
      let few = s.few in
      rw (get_or-tab (row_of (regions_at text starts n)) 0 64 r (omega arith))
      (with_numbers_lem (regions_at text starts n) k (references (nth_region (regions_at text starts n) r)) (alive-at r h) 0
      ∙ rw (no_bit k))
