-- Where a region stands: the regions of the gates before its own, and then its place among those of its gate.
use Rattle.std.proofs.Common.{Option, Some, None}
use mathlib.Core.Path.{◌≡◌, refl, sym, ap, ◌∙◌}
use mathlib.Core.Bool.{Bool, true, false, cond}
use mathlib.Core.List.{List}
use Prim.Native.Nat.{ℕ, ◌+◌, ◌-◌, ◌<◌, ◌≤◌}
use native.Mathlib.Omega.{arith}
use native.Mathlib.Decide.{dec_lt}
use native.Mathlib.Nat.{zero-add}
use native.Mathlib.Numerals.{add-one}
use lib.Dec.{ltb}
use lib.ListN.{length, get_or-eq_default}
use borrow.Author.Tests.{le-leb, lt-leb, leb-true, leb-false, lt-ltb, le-ltb, ltb-true, ltb-false}
use Rattle.plans.specs.Indices.{first_bad}
use Rattle.plans.proofs.IndexLaws.{first-at, first-before, first_to}
use Rattle.text.specs.Lines.{fields}
use Rattle.gates.specs.Gate.{Name}
use Rattle.gates.specs.Inner.Regions.{region_count, region_name}
use Rattle.tables.specs.Table.{no_region, nth_region}
use Rattle.resolve.specs.Inner.Reading.{line_at, fields_at, regions_at}
use Rattle.resolve.proofs.ReadLaws.{count-more, region-named}
use Rattle.resolve.proofs.CrowdLaws.{total-none}
use Rattle.tableregions.specs.Inner.Located.{ends_before, gate_of_region, located_at, in_table}
use Rattle.tableregions.specs.declared.Located.{Located}

-- ---- a place, if it is one of n gates

module _ (n : ℕ) (x : Located) {y : Located} (e : x ≡ y) where
  pub found_place : x.gate < n → Some x ≡ in_table n y
  found_place h = rw (← e, lt-ltb x.gate n h)

  pub no_place : n ≤ x.gate → None ≡ in_table n y
  no_place h = rw (← e, le-ltb x.gate n h)

pub place_found : (n : ℕ) (x y : Located) → Some x ≡ in_table n y → (x ≡ y) × (x.gate < n)
place_found n x y e = go (ltb y.gate n) refl e
  where
    go : (b : Bool) → ltb y.gate n ≡ b → Some x ≡ cond b (Some y) None → (x ≡ y) × (x.gate < n)
    go true h f = let z : x ≡ y = cc in (z, rw z (ltb-true y.gate n h))
    go false h f = cc

pub place_missed : (n : ℕ) (y : Located) → None ≡ in_table n y → n ≤ y.gate
place_missed n y e = go (ltb y.gate n) refl e
  where
    go : (b : Bool) → ltb y.gate n ≡ b → None ≡ cond b (Some y) None → n ≤ y.gate
    go true h f = absurd cc
    go false h f = ltb-false y.gate n h

module _ (text starts : List ℕ) where
  -- ---- gate by gate: the regions before gate i, and what is left of r

  pub first-left : (r : ℕ) → r ≡ length (regions_at text starts 0) + r
  first-left r = omega (arith, total-none text starts)

  module _ (i : ℕ) {line : List ℕ} (l : line ≡ line_at text starts i) {m : ℕ} (c : m ≡ region_count (fields line)) (r left : ℕ)
      (e : r ≡ length (regions_at text starts i) + left) where
    up_to : length (regions_at text starts (i + 1)) ≡ length (regions_at text starts i) + m
    unfolding fields_at
    up_to = rw (add-one, count-more text starts i, c, l)

    pub next-left : m ≤ left → r ≡ length (regions_at text starts (i + 1)) + (left - m)
    next-left h = omega (arith, up_to)

    pub ended : m ≤ left → ends_before text starts r i ≡ true
    unfolding ends_before
    ended h = le-leb (length (regions_at text starts (i + 1))) r (omega (arith, up_to))

    pub not-ended : left < m → ends_before text starts r i ≡ false
    unfolding ends_before
    not-ended h = lt-leb (length (regions_at text starts (i + 1))) r (omega (arith, up_to))

  pub located_as : (n r i left : ℕ) → first_bad (ends_before text starts r) 0 n ≡ i → r ≡ length (regions_at text starts i) + left
      → ◌≡◌ {A = Located} (record { gate = i; quadrant = left }) (located_at text starts n r)
  unfolding located_at gate_of_region
  located_as n r i left f e = let z : r - length (regions_at text starts i) ≡ left = omega arith in rw (f, z)

  -- ---- what is known of the place

  module _ (n r : ℕ) where
    gates-before : length (regions_at text starts (gate_of_region text starts n r)) ≤ r
    unfolding gate_of_region ends_before
    gates-before = go (first_bad (ends_before text starts r) 0 n) (λ k h. first-before (ends_before text starts r) 0 n k (omega arith) h)
      where
        go : (g : ℕ) → ((k : ℕ) → k < g → ends_before text starts r k ≡ true) → length (regions_at text starts g) ≤ r
        go g f = at (dec_lt 0 g)
          where
            at : Dec (0 < g) → length (regions_at text starts g) ≤ r
            at (yes h) =
                let z : g - 1 + 1 ≡ g = omega arith in
                rw z at (leb-true (length (regions_at text starts (g - 1 + 1))) r (f (g - 1) (omega arith)))
            at (no h) = let z : g ≡ 0 = omega arith in rw z (omega (arith, total-none text starts))

    gates-up-to : gate_of_region text starts n r < n
        → r < length (regions_at text starts (gate_of_region text starts n r)) + region_count (fields_at text starts (gate_of_region text starts n r))
    unfolding gate_of_region ends_before
    gates-up-to h =
        let g = first_bad (ends_before text starts r) 0 n in
        let past : ends_before text starts r g ≡ false = first-at (ends_before text starts r) 0 n (rw zero-add h) in
        let more : r < length (regions_at text starts (g + 1)) = leb-false (length (regions_at text starts (g + 1))) r past in
        omega (arith, rw add-one at more, count-more text starts g)

    module _ {x : Located} (e : x ≡ located_at text starts n r) where
      gate_is : x.gate ≡ gate_of_region text starts n r
      unfolding located_at
      gate_is = ap (λ (y : Located). y.gate) e

      quadrant-is : x.quadrant ≡ r - length (regions_at text starts x.gate)
      unfolding located_at
      quadrant-is = rw e

      pub place_is : r ≡ length (regions_at text starts x.gate) + x.quadrant
      place_is = let few : length (regions_at text starts x.gate) ≤ r = rw gate_is gates-before in omega (arith, few, quadrant-is)

      module _ (h : x.gate < n) where
        pub quadrant-inside : x.quadrant < region_count (fields_at text starts x.gate)
        quadrant-inside =
            let few : r < length (regions_at text starts x.gate) + region_count (fields_at text starts x.gate) =
            rw gate_is (gates-up-to (rw gate_is at h)) in
            omega (arith, few, place_is)

        pub named-at : {line : List ℕ} → line ≡ line_at text starts x.gate → {y : Name} → y ≡ region_name (fields line) x.quadrant
            → y ≡ (nth_region (regions_at text starts n) r).name
        unfolding fields_at
        named-at l f =
            f ∙ rw l (sym (ap (λ (k : ℕ). (nth_region (regions_at text starts n) k).name) place_is
            ∙ region-named text starts n x.gate h x.quadrant quadrant-inside))

      -- at n there is no such region
      pub no_region_lem : n ≤ x.gate → nth_region (regions_at text starts n) r ≡ no_region
      unfolding nth_region gate_of_region
      no_region_lem h =
          let z : x.gate ≡ n = omega (arith, h, gate_is, first_to (ends_before text starts r) 0 n) in
          let few : length (regions_at text starts n) ≤ r = omega (arith, rw z at place_is) in
          get_or-eq_default (regions_at text starts n) no_region few

      -- a region that there is stands at one of the gates
      pub gate_inside : r < length (regions_at text starts n) → x.gate < n
      unfolding gate_of_region
      gate_inside h = go (dec_lt x.gate n)
        where
          go : Dec (x.gate < n) → x.gate < n
          go (yes l) = l
          go (no l) =
              let z : x.gate ≡ n = omega (arith, gate_is, first_to (ends_before text starts r) 0 n) in
              absurd (omega (arith, rw z at place_is))
