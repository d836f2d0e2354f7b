-- The number of a region of a name, gate by gate.
use mathlib.Core.Path.{◌≡◌, refl, sym, ap, ◌∙◌}
use mathlib.Core.Bool.{true, false, not}
use mathlib.Core.List.{List}
use Prim.Native.Nat.{ℕ, ◌+◌, ◌-◌, ◌<◌, ◌≤◌, min}
use native.Mathlib.Omega.{arith}
use native.Mathlib.Decide.{dec_lt}
use lib.ListN.{length}
use Rattle.plans.specs.Indices.{first_bad}
use native.Mathlib.Nat.{sub-zero, zero-add}
use native.Mathlib.Numerals.{add-one}
use Rattle.plans.proofs.IndexLaws.{first-at, first-before, first_skip, first-is, first_end, first-from, first_to}
use Rattle.text.specs.Lines.{fields}
use Rattle.text.specs.Bytes.{same}
use Rattle.gates.specs.Gate.{Name}
use Rattle.gates.specs.Inner.Regions.{region_count}
use Rattle.tables.specs.Table.{other_name, number_of}
use Rattle.linenames.specs.Inner.LineNames.{other_region, region_named}
use Rattle.resolve.specs.Inner.Reading.{line_at, fields_at, gates_at, regions_at}
use Rattle.resolve.proofs.ReadLaws.{count-more, count_fits, region-named}

module _ (text starts : List ℕ) (n : ℕ) (x : Name) (i : ℕ) (h : i < n) (base : ℕ) (b : base ≡ length (regions_at text starts i)) where
  -- region base + q is region q of gate i
  other-same : (q : ℕ) → q < region_count (fields_at text starts i)
      → other_name (regions_at text starts n) x (base + q) ≡ other_region (fields_at text starts i) x q
  unfolding other_name other_region
  other-same q l = rw b (ap (λ (y : Name). not (same x y)) (region-named text starts n i h q l))

  module _ (e : number_of (regions_at text starts n) x ≡ first_bad (other_name (regions_at text starts n) x) base (length (regions_at text starts n) - base))
      {q : ℕ}
      (f : q ≡ region_named (fields_at text starts i) x) where
    earlier : (j : ℕ) → j < q → j < region_count (fields_at text starts i) → other_name (regions_at text starts n) x (base + j) ≡ true
    unfolding region_named
    earlier j l k = other-same j k
        ∙ first-before (other_region (fields_at text starts i) x) 0 (region_count (fields_at text starts i)) j (omega arith) (rw f at l)

    pub number-found : q < region_count (fields_at text starts i) → base + q ≡ number_of (regions_at text starts n) x
    unfolding region_named
    number-found l =
        let fits = count_fits text starts n i h in
        let here : other_region (fields_at text starts i) x q ≡ false =
        rw f (first-at (other_region (fields_at text starts i) x) 0 (region_count (fields_at text starts i)) (rw zero-add (rw f at l))) in
        sym (e ∙ first-is (other_name (regions_at text starts n) x) base (length (regions_at text starts n) - base) (base + q) (omega arith) (omega (arith, b))
        (λ j u v. let k : j ≡ base + (j - base) = omega arith in rw k (earlier (j - base) (omega arith) (omega arith)))
        (other-same q l ∙ here))

    pub number_passed : region_count (fields_at text starts i) ≤ q
        → number_of (regions_at text starts n) x
        ≡ first_bad (other_name (regions_at text starts n) x) (base + region_count (fields_at text starts i))
        (length (regions_at text starts n) - (base + region_count (fields_at text starts i)))
    number_passed l =
        let m = region_count (fields_at text starts i) in
        let fits = count_fits text starts n i h in
        let k : length (regions_at text starts n) - base ≡ m + (length (regions_at text starts n) - (base + m)) = omega (arith, b) in
        e ∙ ap (λ (w : ℕ). first_bad (other_name (regions_at text starts n) x) base w) k
        ∙ first_skip (other_name (regions_at text starts n) x) base m (length (regions_at text starts n) - (base + m))
        (λ j u v. let z : j ≡ base + (j - base) = omega arith in rw z (earlier (j - base) (omega arith) (omega arith)))

-- ---- the state of a search after i gates: base regions are passed

pub record Numbering (text starts : List ℕ) (n : ℕ) (x : Name) (i base : ℕ) : Type 0 where
  pub passed : base ≡ length (regions_at text starts i)
  pub rest : number_of (regions_at text starts n) x ≡ first_bad (other_name (regions_at text starts n) x) base (length (regions_at text starts n) - base)

module _ (text starts : List ℕ) (n : ℕ) (x : Name) where
  pub numbering_first : Numbering text starts n x 0 0
  unfolding gates_at number_of
  numbering_first = record { passed = refl; rest = rw sub-zero }

  pub numbering_end : (i base : ℕ) → i ≡ n → Numbering text starts n x i base → base ≡ number_of (regions_at text starts n) x
  numbering_end i base e s =
      let l : length (regions_at text starts n) ≤ base = rw (s.passed, e) (omega arith) in
      sym (s.rest ∙ first_end (other_name (regions_at text starts n) x) (length (regions_at text starts n)) base l)

  module _ (i : ℕ) (h : i < n) (base : ℕ) {line : List ℕ} (l : line ≡ line_at text starts i) {m : ℕ} (c : m ≡ region_count (fields line))
      (s : Numbering text starts n x i base) where
    count-read : m ≡ region_count (fields_at text starts i)
    unfolding fields_at
    count-read = rw (← l) c

    module _ {q : ℕ} (f : q ≡ region_named (fields line) x) where
      found-read : q ≡ region_named (fields_at text starts i) x
      unfolding fields_at
      found-read = rw (← l) f

      pub numbering_found : q < m → base + q ≡ number_of (regions_at text starts n) x
      numbering_found o = number-found text starts n x i h base s.passed s.rest found-read (omega (arith, count-read))

      pub numbering_next : m ≤ q → Numbering text starts n x (i + 1) (base + m)
      numbering_next o =
          record {
            passed = rw (add-one, count-more text starts i, s.passed, count-read);
            rest = rw count-read (number_passed text starts n x i h base s.passed s.rest found-read (omega (arith, count-read)));
          }

      -- a number of 64 or more
      pub numbering_full : 64 - base ≤ q → 64 ≡ min 64 (number_of (regions_at text starts n) x)
      unfolding region_named
      numbering_full o = go (dec_lt q m)
        where
          go : Dec (q < m) → 64 ≡ min 64 (number_of (regions_at text starts n) x)
          go (yes u) = omega (arith, numbering_found u)
          go (no u) =
              let rest = (numbering_next (omega arith)).rest in
              let other = other_name (regions_at text starts n) x in
              let most = first_to (other_region (fields_at text starts i) x) 0 (region_count (fields_at text starts i)) in
              omega (arith, rest, most, found-read, count-read, first-from other (base + m) (length (regions_at text starts n) - (base + m)))

-- ---- of at most 64 regions the numbers are as they are

module _ (text starts : List ℕ) (n : ℕ) (few : length (regions_at text starts n) ≤ 64) where
  pub total_is : {total : ℕ} → total ≡ min 64 (length (regions_at text starts n)) → total ≡ length (regions_at text starts n)
  total_is e = omega arith

  pub number_is : (x : Name) {number : ℕ} → number ≡ min 64 (number_of (regions_at text starts n) x) → number ≡ number_of (regions_at text starts n) x
  unfolding number_of
  number_is x e = omega (arith, first_to (other_name (regions_at text starts n) x) 0 (length (regions_at text starts n)))
