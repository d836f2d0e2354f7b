-- `member` obeys 01's equations on every table whose regions are orderly, and nothing else does.
use mathlib.Core.Path.{◌≡◌, refl, sym, subst, ◌∙◌}
use mathlib.Core.Bool.{Bool, true, false, ◌&&◌, ◌||◌}
use mathlib.Core.Option.{Option, none, some}
use mathlib.Core.List.Memᴰ
use mathlib.Core.List.Memᴰ.{head as here}
use mathlib.Core.List.Memᴰ.{tail as there}
use mathlib.Core.List.{List, [], ◌∷◌, map}
use Prim.Native.Nat.{ℕ, zero, suc, ◌≤◌, ◌<◌}
use native.Mathlib.Omega.{arith}
use lib.ListN.{length}
use Rattle.text.specs.Bytes.{same, every}
use Rattle.text.proofs.BytesLaws.{same_refl}
use Rattle.gates.specs.Gate.{Name, Event, Operand, Shape, leaf, and_of, or_of, not_of, Region}
use Rattle.tables.specs.Table.{◌∈◌, some_of, nth_region, names, number_of, parent_names, operand_names, references}
use Rattle.tables.specs.Further.Rules.{Distinct}
use Rattle.tables.specs.Members.{in_operand, in_shape, in_parent, belongs, rounds}
use Rattle.tables.specs.Further.Obeying.{Obeys}
use Rattle.tables.proofs.ListLaws.{map_in}
use Rattle.tables.proofs.NameLaws.{same_not, region_in_lem, region-of, number-name, in_number}
use Rattle.tables.proofs.OrderLaws.{Orderly, along-order}

-- ---- a region's value rests on its references alone

module _ (e : Event) (m m' : Name → Bool) where
  same-every : (os : List Operand) → ((n : Name) → n ∈ map (λ (o : Operand). o.name) os → m n ≡ m' n) → every (in_operand m) os ≡ every (in_operand m') os
  same-every [] h = refl
  same-every (o ∷ os) h = rw (h o.name (here refl), same-every os (λ n k. h n (there k)))

  same_some : (os : List Operand) → ((n : Name) → n ∈ map (λ (o : Operand). o.name) os → m n ≡ m' n) → some_of (in_operand m) os ≡ some_of (in_operand m') os
  same_some [] h = refl
  same_some (o ∷ os) h = rw (h o.name (here refl), same_some os (λ n k. h n (there k)))

  same_shape : (s : Shape) → ((n : Name) → n ∈ operand_names s → m n ≡ m' n) → in_shape m e s ≡ in_shape m' e s
  same_shape (leaf l) h = refl
  same_shape (and_of os) h = same-every os h
  same_shape (or_of os) h = same_some os h
  same_shape (not_of o) h = rw (h o.name (here refl))

  same-parent : (p : Option Name) → ((n : Name) → n ∈ parent_names p → m n ≡ m' n) → in_parent m p ≡ in_parent m' p
  same-parent none h = refl
  same-parent (some n) h = h n (here refl)

  pub same-value : (r : Region) → ((n : Name) → n ∈ references r → m n ≡ m' n) → belongs m e r ≡ belongs m' e r
  same-value r h =
      rw (
        same_shape r.shape (λ n k. h n (Memᴰ.append_right (parent_names r.parent) k)),
        same-parent r.parent (λ n k. h n (Memᴰ.append_left (operand_names r.shape) k)),
      )

-- ---- what is asked of the region of a name, at a region of the table

module _ (test : Region → Bool) where
  absent : (n : Name) (rs : List Region) → (n ∈ names rs → ⊥) → some_of (λ (r : Region). same n r.name && test r) rs ≡ false
  absent n [] h = refl
  absent n (r ∷ rs) h = rw (same_not n r.name (λ q. h (here q))) (absent n rs (λ k. h (there k)))

  or_false : (b : Bool) → (b || false) ≡ b
  or_false true = refl
  or_false false = refl

  pub at-region : {r : Region} {rs : List Region} → Distinct (names rs) → r ∈ rs
      → some_of (λ (x : Region). same r.name x.name && test x) rs ≡ test r
  at-region {r} d (here {x = x} {xs = rs} q) =
      subst (λ (y : Region). some_of (λ (z : Region). same y.name z.name && test z) (x ∷ rs) ≡ test y) (sym q)
      (rw (same_refl x.name, absent x.name rs d.0) (or_false (test x)))
  at-region {r} d (there {x = x} {xs = rs} k) =
      rw (same_not r.name x.name (λ q. d.0 (Memᴰ.cast (sym q) (map_in (λ (y : Region). y.name) k)))) (at-region d.1 k)

module _ (rs : List Region) (ok : Orderly rs) (e : Event) where
  -- the name of region r
  abbrev called : ℕ → Name
  called r = (nth_region rs r).name

  -- a region's reference is the name of the region of its number
  referred : (r : ℕ) → r < length rs → (n : Name) → n ∈ references (nth_region rs r) → n ≡ called (number_of rs n)
  referred r l n k = number-name rs n (in_number rs n (ok.live (nth_region rs r) (region_in_lem rs r l) n k))

  -- ---- rounds settle, one region of the order after the other

  abbrev Settled : ℕ → ℕ → Type 0
  Settled k r = (i j : ℕ) → k ≤ i → k ≤ j → rounds i rs e (called r) ≡ rounds j rs e (called r)

  settle : (k r : ℕ) → r < length rs → ((n : Name) → n ∈ references (nth_region rs r) → Settled k (number_of rs n)) → Settled (suc k) r
  settle k r l h zero j a b = absurd (omega arith)
  settle k r l h (suc i) zero a b = absurd (omega arith)
  settle k r l h (suc i) (suc j) a b =
      at-region (belongs (rounds i rs e) e) ok.distinct (region_in_lem rs r l)
      ∙ same-value e (rounds i rs e) (rounds j rs e) (nth_region rs r) (λ n q. let p = referred r l n q in rw p (h n q i j (omega arith) (omega arith)))
      ∙ sym (at-region (belongs (rounds j rs e) e) ok.distinct (region_in_lem rs r l))

  -- what the rounds come to obeys the equations
  pub rounds_obey : Obeys rs e (rounds (length rs) rs e)
  rounds_obey r m =
      let x = region-of rs m in
      let s = along-order rs ok Settled (λ k y q i j a b. q i j (omega arith) (omega arith)) settle x.0 x.1 in
      rw (← x.2)
      (s (length rs) (suc (length rs)) (omega arith) (omega arith)
      ∙ at-region (belongs (rounds (length rs) rs e) e) ok.distinct (region_in_lem rs x.0 x.1))

  -- two that obey the equations agree
  pub obey_agree : (m m' : Name → Bool) → Obeys rs e m → Obeys rs e m' → (r : Region) → r ∈ rs → m r.name ≡ m' r.name
  obey_agree m m' o o' r i =
      let x = region-of rs i in
      rw (← x.2) (along-order rs ok (λ k y. m (called y) ≡ m' (called y)) (λ k y q. q)
      (λ k y l h. o (nth_region rs y) (region_in_lem rs y l) ∙ same-value e m m' (nth_region rs y) (λ n q. let p = referred y l n q in rw p (h n q))
      ∙ sym (o' (nth_region rs y) (region_in_lem rs y l)))
      x.0 x.1)
