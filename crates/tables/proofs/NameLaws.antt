-- Names: equality, distinct names, and the number of the region of a name.
use mathlib.Core.Path.{◌≡◌, refl, sym, ap, ◌∙◌}
use mathlib.Core.Bool.{true, false}
use mathlib.Core.Logic.{◌⊎◌, inl, inr}
use mathlib.Core.List.Memᴰ
use mathlib.Core.List.Memᴰ.{head as here}
use mathlib.Core.List.Memᴰ.{tail as there}
use mathlib.Core.List.{List, [], ◌∷◌, ◌++◌}
use Prim.Native.Nat.{ℕ, zero, suc, ◌<◌}
use native.Mathlib.Omega.{arith}
use native.Mathlib.Decide.{dec_lt}
use lib.ListN.{length, get_or, length-map, get_or-map}
use Rattle.plans.specs.Indices.{first_bad}
use Rattle.plans.proofs.IndexLaws.{all-at, all_of, first-at, first-before, first-is}
use Rattle.text.specs.Bytes.{same}
use Rattle.text.proofs.BytesLaws.{same_refl, same_eq}
use Rattle.text.proofs.TestLaws.{true≢false}
use Rattle.gates.specs.Gate.{Name, Region}
use Rattle.tables.specs.Table.{◌∈◌, no_region, nth_region, apart, new_name, different, names, other_name, number_of}
use Rattle.tables.specs.Reaching.{is_in}
use Rattle.tables.specs.Further.Rules.{Distinct}
use Rattle.tables.proofs.ListLaws.{unless, not-not, not-true, some_at, some-found, map_in, map-from, at_in, index_of}

-- ---- equality

pub same_not : (a b : Name) → (a ≡ b → ⊥) → same a b ≡ false
same_not a b h = unless (same a b) (λ e. h (same_eq a b e))

pub in_list : {n : Name} {l : List Name} → n ∈ l → is_in l n ≡ true
unfolding is_in
in_list {n} m = some_at (same n) m (same_refl n)

pub list_in : (n : Name) (l : List Name) → is_in l n ≡ true → n ∈ l
unfolding is_in
list_in n l e = let r = some-found (same n) l e in Memᴰ.cast (same_eq n r.0 r.2) r.1

-- ---- distinct names

pub split : (l k : List Name) → Distinct (l ++ k) → Distinct l × Distinct k × ((n : Name) → n ∈ l → n ∈ k → ⊥)
split [] k d = (tt, d, λ n m. absurd (Memᴰ.not-nil m))
split (x ∷ l) k d = go (split l k d.1)
  where
    apart_from : ((n : Name) → n ∈ l → n ∈ k → ⊥) → (n : Name) → (n ≡ x) ⊎ (n ∈ l) → n ∈ k → ⊥
    apart_from f n (inl e) j = d.0 (Memᴰ.append_right l (Memᴰ.cast (sym e) j))
    apart_from f n (inr i) j = f n i j

    go : Distinct l × Distinct k × ((n : Name) → n ∈ l → n ∈ k → ⊥) → Distinct (x ∷ l) × Distinct k × ((n : Name) → n ∈ (x ∷ l) → n ∈ k → ⊥)
    go s = (((λ m. d.0 (Memᴰ.append_left k m)), s.0), s.1, (λ n i. apart_from s.2 n (Memᴰ.cases_cons i)))

pub unite : (l k : List Name) → Distinct l → Distinct k → ((n : Name) → n ∈ l → n ∈ k → ⊥) → Distinct (l ++ k)
unite [] k d c f = c
unite (x ∷ l) k d c f = ((λ m. go (Memᴰ.append_cases l m)), unite l k d.1 c (λ n i. f n (there i)))
  where
    go : (x ∈ l) ⊎ (x ∈ k) → ⊥
    go (inl m) = d.0 m
    go (inr m) = f x (here refl) m

-- distinct: names at different indices differ
pub distinct-at : (ns : List Name) → Distinct ns → (j k : ℕ) → j < k → k < length ns → get_or ns j [] ≡ get_or ns k [] → ⊥
distinct-at [] d j k h l e = absurd (omega arith)
distinct-at (n ∷ ns) d j zero h l e = absurd (omega arith)
distinct-at (n ∷ ns) d zero (suc k) h l e = d.0 (Memᴰ.cast e (at_in [] ns k (omega arith)))
distinct-at (n ∷ ns) d (suc j) (suc k) h l e = distinct-at ns d.1 j k (omega arith) (omega arith) e

pub at-distinct : (ns : List Name) → ((j k : ℕ) → j < k → k < length ns → get_or ns j [] ≡ get_or ns k [] → ⊥) → Distinct ns
at-distinct [] h = tt
at-distinct (n ∷ ns) h = (
  (λ m. let r = index_of [] ns m in let l : r.0 < length ns = r.1 in h 0 (suc r.0) (omega arith) (omega arith) (sym r.2)),
  at-distinct ns (λ j k a b. h (suc j) (suc k) (omega arith) (omega arith)),
)

pub different-distinct : (ns : List Name) → different ns ≡ true → Distinct ns
unfolding different new_name apart
different-distinct ns e = at-distinct ns (λ j k h l q.
    true≢false (sym (rw q (same_refl (get_or ns k [])))
    ∙ not-true (same (get_or ns j []) (get_or ns k [])) (all-at (apart ns k) k (all-at (new_name ns) (length ns) e k l) j h)))

pub distinct-different : (ns : List Name) → Distinct ns → different ns ≡ true
unfolding different new_name apart
distinct-different ns d =
    all_of (new_name ns) (length ns) (λ k l. all_of (apart ns k) k (λ j h. rw (same_not (get_or ns j []) (get_or ns k []) (distinct-at ns d j k h l))))

-- ---- the number of the region of a name

module _ (rs : List Region) where
  pub region_in_lem : (r : ℕ) → r < length rs → nth_region rs r ∈ rs
  unfolding nth_region
  region_in_lem r h = at_in no_region rs r h

  pub name_in : (r : ℕ) → r < length rs → (nth_region rs r).name ∈ names rs
  name_in r h = map_in (λ (x : Region). x.name) (region_in_lem r h)

  name-at : (r : ℕ) → get_or (names rs) r [] ≡ (nth_region rs r).name
  unfolding nth_region
  name-at r = get_or-map (λ (x : Region). x.name) rs r no_region

  pub region-of : {x : Region} → x ∈ rs → (r : ℕ) × (r < length rs) × (nth_region rs r ≡ x)
  unfolding nth_region
  region-of m = index_of no_region rs m

  -- a number below the number of regions is that of a region of the name
  pub number-name : (n : Name) → number_of rs n < length rs → n ≡ (nth_region rs (number_of rs n)).name
  unfolding number_of other_name
  number-name n h =
      let k = first_bad (other_name rs n) 0 (length rs) in
      same_eq n (nth_region rs k).name (not-not (same n (nth_region rs k).name) (first-at (other_name rs n) 0 (length rs) (omega arith)))

  pub number_in : (n : Name) → number_of rs n < length rs → n ∈ names rs
  number_in n h = Memᴰ.cast (number-name n h) (name_in (number_of rs n) h)

  pub in_number : (n : Name) → n ∈ names rs → number_of rs n < length rs
  unfolding number_of other_name
  in_number n m = go (dec_lt (first_bad (other_name rs n) 0 (length rs)) (length rs))
    where
      go : Dec (first_bad (other_name rs n) 0 (length rs) < length rs) → first_bad (other_name rs n) 0 (length rs) < length rs
      go (yes h) = h
      go (no h) =
          let x = map-from (λ (y : Region). y.name) rs m in
          let r = region-of x.1 in
          let l : r.0 < length rs = r.1 in
          let e : n ≡ (nth_region rs r.0).name = x.2 ∙ ap (λ (y : Region). y.name) (sym r.2) in
          let f : same n (nth_region rs r.0).name ≡ false = not-true _ (first-before (other_name rs n) 0 (length rs) r.0 (omega arith) (omega arith)) in
          absurd (true≢false (sym (rw (← e) (same_refl n)) ∙ f))

  -- regions are numbered in table order
  pub number_at : Distinct (names rs) → (r : ℕ) → r < length rs → number_of rs (nth_region rs r).name ≡ r
  unfolding number_of other_name
  number_at d r h =
      let n = (nth_region rs r).name in
      let l : length (names rs) ≡ length rs = length-map rs (λ (x : Region). x.name) in
      first-is (other_name rs n) 0 (length rs) r (omega arith) (omega arith)
      (λ j a b. rw (same_not n (nth_region rs j).name (λ e. distinct-at (names rs) d j r b (omega arith) (name-at j ∙ sym e ∙ sym (name-at r)))))
      (rw (same_refl n))
