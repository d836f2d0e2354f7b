-- What one gate more adds to the regions and to the names given, and the regions of a gate by their numbers.
use mathlib.Core.Path.{◌≡◌, refl, sym, ap, ◌∙◌}
use mathlib.Core.Bool.{true, false, ◌&&◌}
use mathlib.Core.Logic.{◌⊎◌, inl, inr}
use mathlib.Core.List.Memᴰ
use mathlib.Core.List.{List, [], ◌∷◌, ◌++◌, append_assoc, append-nil}
use Prim.Native.Nat.{ℕ, suc, ◌+◌, ◌-◌, ◌<◌, ◌≤◌}
use native.Mathlib.Omega.{arith}
use native.Mathlib.Decide.{dec_lt}
use lib.Dec.{ltb, leb}
use lib.ListN.{length, get_or, take, drop, length-append, get_or-append}
use lib.Seq.{take-suc, split_at, get_or-append-add}
use borrow.Author.Tests.{lt-ltb, ltb-true, le-leb, leb-true}
use Rattle.plans.specs.Indices.{all}
use Rattle.plans.proofs.IndexLaws.{all-at, all_of}
use Rattle.text.proofs.TestLaws.{true≢false, and_left, and_right, passed_or_failed}
use Rattle.gates.specs.Gate.{Name, Gate, Region, gate_regions, regions}
use Rattle.tables.specs.Table.{no_gate, nth_gate, no_region, nth_region, up_to, own_names, given, apart, new_name, different, names, number_of}
use Rattle.tables.specs.Reaching.{is_in}
use Rattle.tables.specs.Further.Rules.{Distinct}
use Rattle.tables.proofs.ListLaws.{unless, map_in, map-from, at_in, index_of}
use Rattle.tables.proofs.NameLaws.{in_list, list_in, number-name, number_at}

-- ---- two tables after each other

pub regions_append : (t u : List Gate) → regions (t ++ u) ≡ regions t ++ regions u
regions_append [] u = refl
regions_append (g ∷ t) u = ap (λ (l : List Region). gate_regions g ++ l) (regions_append t u) ∙ sym (append_assoc (gate_regions g) (regions t) (regions u))

pub given_append : (t u : List Gate) → given (t ++ u) ≡ given t ++ given u
given_append [] u = refl
given_append (g ∷ t) u = ap (λ (l : List Name). own_names g ++ l) (given_append t u) ∙ sym (append_assoc (own_names g) (given t) (given u))

module _ (t : List Gate) (i : ℕ) (h : i < length t) where
  -- ---- one gate more

  up-to-next : up_to t i ≡ take i t ++ (nth_gate t i ∷ [])
  unfolding up_to nth_gate
  up-to-next = take-suc t i no_gate h

  pub regions-next : regions (up_to t i) ≡ regions (take i t) ++ gate_regions (nth_gate t i)
  regions-next =
      ap regions up-to-next
      ∙ regions_append (take i t) (nth_gate t i ∷ [])
      ∙ ap (λ (l : List Region). regions (take i t) ++ l) (append-nil (gate_regions (nth_gate t i)))

  pub given-next : given (up_to t i) ≡ given (take i t) ++ own_names (nth_gate t i)
  given-next =
      ap given up-to-next ∙ given_append (take i t) (nth_gate t i ∷ []) ∙ ap (λ (l : List Name). given (take i t) ++ l) (append-nil (own_names (nth_gate t i)))

  -- ---- the regions of gate i: their numbers follow those of the gates before it

  regions-cut : regions t ≡ regions (take i t) ++ (gate_regions (nth_gate t i) ++ regions (drop (suc i) t))
  unfolding nth_gate
  regions-cut = ap regions (split_at t i no_gate h) ∙ regions_append (take i t) (get_or t i no_gate ∷ drop (suc i) t)

  pub region-number : (q : ℕ) → q < length (gate_regions (nth_gate t i))
      → nth_region (regions t) (length (regions (take i t)) + q) ≡ get_or (gate_regions (nth_gate t i)) q no_region
  unfolding nth_region
  region-number q l =
      ap (λ (rs : List Region). get_or rs (length (regions (take i t)) + q) no_region) regions-cut
      ∙ get_or-append-add (regions (take i t)) (gate_regions (nth_gate t i) ++ regions (drop (suc i) t)) q no_region
      ∙ get_or-append (gate_regions (nth_gate t i)) (regions (drop (suc i) t)) no_region q l

  regions-fit : length (regions (take i t)) + length (gate_regions (nth_gate t i)) ≤ length (regions t)
  regions-fit =
      let e : length (regions t) ≡ length (regions (take i t)) + (length (gate_regions (nth_gate t i)) + length (regions (drop (suc i) t))) =
      ap length regions-cut ∙ length-append (regions (take i t)) (gate_regions (nth_gate t i) ++ regions (drop (suc i) t))
      ∙ ap (λ (k : ℕ). length (regions (take i t)) + k) (length-append (gate_regions (nth_gate t i)) (regions (drop (suc i) t))) in
      omega arith

  -- a name is that of a region of gate i exactly when its number is one of those
  pub named_by_number : Distinct (names (regions t)) → (n : Name)
      → is_in (names (gate_regions (nth_gate t i))) n
      ≡ (leb (length (regions (take i t))) (number_of (regions t) n)
      && ltb (number_of (regions t) n) (length (regions (take i t)) + length (gate_regions (nth_gate t i))))
  named_by_number d n = go (passed_or_failed (is_in (names (gate_regions (nth_gate t i))) n))
    where
      a : ℕ
      a = length (regions (take i t))

      k : ℕ
      k = number_of (regions t) n

      m : ℕ
      m = length (gate_regions (nth_gate t i))

      inside : is_in (names (gate_regions (nth_gate t i))) n ≡ true → (a ≤ k) × (k < a + m)
      inside e =
          let x = map-from (λ (r : Region). r.name) (gate_regions (nth_gate t i)) (list_in n (names (gate_regions (nth_gate t i))) e) in
          let q = index_of no_region (gate_regions (nth_gate t i)) x.1 in
          let l : q.0 < m = q.1 in
          let f = regions-fit in
          let c : (nth_region (regions t) (a + q.0)).name ≡ n = ap (λ (r : Region). r.name) (region-number q.0 l ∙ q.2) ∙ sym x.2 in
          let z : k ≡ a + q.0 = ap (number_of (regions t)) (sym c) ∙ number_at (regions t) d (a + q.0) (omega arith) in
          (omega arith, omega arith)

      outside : (a ≤ k) × (k < a + m) → is_in (names (gate_regions (nth_gate t i))) n ≡ true
      outside b =
          let l : a ≤ k = b.0 in
          let u : k < a + m = b.1 in
          let f = regions-fit in
          let z : a + (k - a) ≡ k = omega arith in
          let c : n ≡ (get_or (gate_regions (nth_gate t i)) (k - a) no_region).name =
          number-name (regions t) n (omega arith)
          ∙ ap (λ (j : ℕ). (nth_region (regions t) j).name) (sym z)
          ∙ ap (λ (r : Region). r.name) (region-number (k - a) (omega arith)) in
          in_list (Memᴰ.cast c (map_in (λ (r : Region). r.name) (at_in no_region (gate_regions (nth_gate t i)) (k - a) (omega arith))))

      go : (is_in (names (gate_regions (nth_gate t i))) n ≡ true) ⊎ (is_in (names (gate_regions (nth_gate t i))) n ≡ false)
          → is_in (names (gate_regions (nth_gate t i))) n ≡ (leb a k && ltb k (a + m))
      go (inl e) = let b = inside e in rw (e, le-leb a k b.0, lt-ltb k (a + m) b.1)
      go (inr e) =
          e
          ∙ sym (unless (leb a k && ltb k (a + m))
          (λ b.
          true≢false (sym (outside (leb-true a k (and_left (leb a k) (ltb k (a + m)) b), ltb-true k (a + m) (and_right (leb a k) (ltb k (a + m)) b))) ∙ e)))

-- ---- names after distinct ones are distinct from them when each is new

pub different_append : (l k : List Name) → different l ≡ true → different (l ++ k) ≡ all (λ j. new_name (l ++ k) (length l + j)) (length k)
unfolding different new_name apart
different_append l k d = go (passed_or_failed (all (λ j. new_name (l ++ k) (length l + j)) (length k)))
  where
    old : (j : ℕ) → j < length l → new_name (l ++ k) j ≡ true
    old j h =
        all_of (apart (l ++ k) j) j
        (λ i u. rw (get_or-append l k [] i (omega arith), get_or-append l k [] j h) (all-at (apart l j) j (all-at (new_name l) (length l) d j h) i u))

    new : all (λ j. new_name (l ++ k) (length l + j)) (length k) ≡ true → (j : ℕ) → j < length (l ++ k) → new_name (l ++ k) j ≡ true
    new e j h = part (dec_lt j (length l))
      where
        part : Dec (j < length l) → new_name (l ++ k) j ≡ true
        part (yes u) = old j u
        part (no u) =
            let s = length-append l k in
            let z : length l + (j - length l) ≡ j = omega arith in
            ap (new_name (l ++ k)) (sym z) ∙ all-at (λ i. new_name (l ++ k) (length l + i)) (length k) e (j - length l) (omega arith)

    later : all (new_name (l ++ k)) (length (l ++ k)) ≡ true → (j : ℕ) → j < length k → new_name (l ++ k) (length l + j) ≡ true
    later e j h = let s = length-append l k in all-at (new_name (l ++ k)) (length (l ++ k)) e (length l + j) (omega arith)

    go : (all (λ j. new_name (l ++ k) (length l + j)) (length k) ≡ true) ⊎ (all (λ j. new_name (l ++ k) (length l + j)) (length k) ≡ false)
        → all (new_name (l ++ k)) (length (l ++ k)) ≡ all (λ j. new_name (l ++ k) (length l + j)) (length k)
    go (inl e) = all_of (new_name (l ++ k)) (length (l ++ k)) (new e) ∙ sym e
    go (inr e) =
        unless (all (new_name (l ++ k)) (length (l ++ k))) (λ b. true≢false (sym (all_of (λ j. new_name (l ++ k) (length l + j)) (length k) (later b)) ∙ e))
        ∙ sym e
