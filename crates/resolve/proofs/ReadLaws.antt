-- The gates that are read: one more, one by its number, the first of them, and the numbers of their regions.
use mathlib.Core.Path.{◌≡◌, sym, ap, ◌∙◌}
use mathlib.Core.List.{List, [], ◌∷◌, ◌++◌, append-nil}
use Prim.Native.Nat.{ℕ, zero, suc, ◌+◌, ◌<◌, ◌≤◌}
use native.Mathlib.Omega.{arith}
use native.Mathlib.Decide.{dec_lt}
use lib.ListN.{length, get_or, take, length-append, length-map}
use lib.Seq.{take-append-le, take_all, get_or-take, get_or_at}
use Rattle.text.specs.Bounded.{tab}
use Rattle.text.proofs.BoundedLaws.{length-tab}
use Rattle.gates.specs.Gate.{Gate, Region, gate_regions, regions}
use Rattle.gates.specs.Kinds.{field_at}
use Rattle.gates.specs.Meaning.{parent_of, gate_of}
use Rattle.gates.specs.Inner.Regions.{region_count, region_name, region_shape}
use Rattle.gates.proofs.GateLaws.{map_last, region-count, region-at}
use Rattle.tables.specs.Table.{no_gate, nth_gate, no_region, nth_region, up_to}
use Rattle.tables.specs.Head.{dimensions, line_gate}
use Rattle.tables.proofs.RegionLaws.{regions_append, region-number}
use Rattle.resolve.specs.Inner.Reading.{line_at, fields_at, gates_at}

module _ (text starts : List ℕ) where
  abbrev pub gate_at : ℕ → Gate
  gate_at i = gate_of (dimensions text) (fields_at text starts i)

  pub gates-more : (n : ℕ) → gates_at text starts (suc n) ≡ gates_at text starts n ++ (gate_at n ∷ [])
  unfolding gates_at line_gate fields_at
  gates-more n = map_last (line_gate (dimensions text)) (tab (line_at text starts) n) (line_at text starts n)

  pub gates-length : (n : ℕ) → length (gates_at text starts n) ≡ n
  unfolding gates_at
  gates-length n = length-map (tab (line_at text starts) n) (line_gate (dimensions text)) ∙ length-tab (line_at text starts) n

  pub gates-take : (n i : ℕ) → i ≤ n → take i (gates_at text starts n) ≡ gates_at text starts i
  gates-take zero i h = let e : i ≡ 0 = omega arith in rw e (take_all 0 (gates_at text starts 0) (rw (gates-length 0) (omega arith)))
  gates-take (suc n) i h = go (dec_lt n i) (gates-take n i)
    where
      go : Dec (n < i) → (i ≤ n → take i (gates_at text starts n) ≡ gates_at text starts i) → take i (gates_at text starts (suc n)) ≡ gates_at text starts i
      go (yes l) ih = let e : i ≡ suc n = omega arith in rw e (take_all (suc n) (gates_at text starts (suc n)) (rw (gates-length (suc n)) (omega arith)))
      go (no l) ih =
          ap (take i) (gates-more n) ∙ take-append-le i (gates_at text starts n) (gate_at n ∷ []) (rw (gates-length n) (omega arith)) ∙ ih (omega arith)

  module _ (n i : ℕ) (h : i < n) where
    pub gates-up-to : up_to (gates_at text starts n) i ≡ gates_at text starts (suc i)
    unfolding up_to
    gates-up-to = gates-take n (suc i) (omega arith)

    pub gates-nth : nth_gate (gates_at text starts n) i ≡ gate_at i
    unfolding nth_gate
    gates-nth =
        sym (get_or-take (suc i) (gates_at text starts n) i no_gate (omega arith))
        ∙ ap (λ (l : List Gate). get_or l i no_gate) (gates-take n (suc i) (omega arith) ∙ gates-more i)
        ∙ get_or_at (gates_at text starts i) (gate_at i) [] no_gate i (gates-length i)

  -- ---- regions

  pub regions-more : (i : ℕ) → regions (gates_at text starts (suc i)) ≡ regions (gates_at text starts i) ++ gate_regions (gate_at i)
  regions-more i =
      ap regions (gates-more i) ∙ regions_append (gates_at text starts i) (gate_at i ∷ [])
      ∙ ap (λ (l : List Region). regions (gates_at text starts i) ++ l) (append-nil (gate_regions (gate_at i)))

  pub count-more : (i : ℕ)
      → length (regions (gates_at text starts (suc i))) ≡ length (regions (gates_at text starts i)) + region_count (fields_at text starts i)
  count-more i =
      ap length (regions-more i) ∙ length-append (regions (gates_at text starts i)) (gate_regions (gate_at i))
      ∙ ap (λ (k : ℕ). length (regions (gates_at text starts i)) + k) (region-count (dimensions text) (fields_at text starts i))

  pub count-up : (n i : ℕ) → i ≤ n → length (regions (gates_at text starts i)) ≤ length (regions (gates_at text starts n))
  count-up zero i h = let e : i ≡ 0 = omega arith in rw e (omega arith)
  count-up (suc n) i h = go (dec_lt n i) (count-up n i)
    where
      go : Dec (n < i) → (i ≤ n → length (regions (gates_at text starts i)) ≤ length (regions (gates_at text starts n)))
          → length (regions (gates_at text starts i)) ≤ length (regions (gates_at text starts (suc n)))
      go (yes l) ih = let e : i ≡ suc n = omega arith in rw e (omega arith)
      go (no l) ih = omega (arith, ih (omega arith), count-more n)

  module _ (n i : ℕ) (h : i < n) where
    pub count_fits : length (regions (gates_at text starts i)) + region_count (fields_at text starts i) ≤ length (regions (gates_at text starts n))
    count_fits = omega (arith, count-more i, count-up n (suc i) (omega arith))

    -- region q of gate i
    pub region-read : (q : ℕ) → q < region_count (fields_at text starts i)
        → nth_region (regions (gates_at text starts n)) (length (regions (gates_at text starts i)) + q)
        ≡ record {
          name = region_name (fields_at text starts i) q;
          parent = parent_of (field_at (fields_at text starts i) 2);
          shape =
              region_shape (dimensions text) (fields_at text starts i) q;
        }
    region-read q l =
        let g : nth_gate (gates_at text starts n) i ≡ gate_at i = gates-nth n i h in
        let k : q < length (gate_regions (nth_gate (gates_at text starts n) i)) = rw (g, region-count (dimensions text) (fields_at text starts i)) l in
        let t : take i (gates_at text starts n) ≡ gates_at text starts i = gates-take n i (omega arith) in
        ap (λ (u : List Gate). nth_region (regions (gates_at text starts n)) (length (regions u) + q)) (sym t)
        ∙ region-number (gates_at text starts n) i (rw (gates-length n) h) q k
        ∙ ap (λ (x : Gate). get_or (gate_regions x) q no_region) g
        ∙ region-at (dimensions text) (fields_at text starts i) q no_region l

    pub region-named : (q : ℕ) → q < region_count (fields_at text starts i)
        → (nth_region (regions (gates_at text starts n)) (length (regions (gates_at text starts i)) + q)).name ≡ region_name (fields_at text starts i) q
    region-named q l = ap (λ (r : Region). r.name) (region-read q l)
