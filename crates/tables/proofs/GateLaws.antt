-- From gates to regions, and what another order of the gate lines leaves as it was.
use mathlib.Core.Path.{◌≡◌, refl, sym, ap, ◌∙◌}
use mathlib.Core.Bool.{Bool}
use mathlib.Core.Logic.{◌⊎◌, inl, inr, ⊎_elim}
use mathlib.Core.Option.{Option}
use mathlib.Core.List.Memᴰ
use mathlib.Core.List.Memᴰ.{head as here}
use mathlib.Core.List.Memᴰ.{tail as there}
use mathlib.Core.List.{List, [], ◌∷◌, ◌++◌, map, map-append}
use mathlib.Core.List.Permᴰ
use mathlib.Core.List.{Permᴰ}
use Prim.Native.Nat.{ℕ, ◌+◌}
use lib.ListN.{length}
use Rattle.gates.specs.Gate.{Name, Event, leaf, Quadrant, Body, one, quad, Gate, Region, regions_of, gate_regions, regions}
use Rattle.tables.specs.Table.{◌∈◌, names, given, own_names, quadrant_names, parent_names, operand_names, body_references, references, sum_of}
use Rattle.tables.specs.Reaching.{is_in, refers_to}
use Rattle.tables.specs.Further.Reaching.{Refers, Reaches, refers, refers_on}
use Rattle.tables.specs.Further.Rules.{Distinct, Rules}
use Rattle.tables.specs.Further.Obeying.{Obeys}
use Rattle.tables.proofs.ListLaws.{some_at, map_in, map-from}
use Rattle.tables.proofs.NameLaws.{in_list, split, unite}
use Rattle.tables.proofs.ReachingLaws.{along}
use Rattle.tables.proofs.SumLaws.{sum_one, sum_append, sum_moved}
use Rattle.tables.proofs.OrderLaws.{Refer, Orderly}

-- ---- regions and their gates

pub region-of_gate : {g : Gate} {t : List Gate} (r : Region) → g ∈ t → r ∈ gate_regions g → r ∈ regions t
region-of_gate r (here {x = h} {xs = t} e) m = Memᴰ.append_left (regions t) (rw e at m)
region-of_gate r (there {x = h} m) k = Memᴰ.append_right (gate_regions h) (region-of_gate r m k)

pub gate_of-region : (t : List Gate) (r : Region) → r ∈ regions t → (g : Gate) × (g ∈ t) × (r ∈ gate_regions g)
gate_of-region [] r m = absurd (Memᴰ.not-nil m)
gate_of-region (g ∷ t) r m = go (Memᴰ.append_cases (gate_regions g) m) (λ k. gate_of-region t r k)
  where
    go : (r ∈ gate_regions g) ⊎ (r ∈ regions t) → (r ∈ regions t → (h : Gate) × (h ∈ t) × (r ∈ gate_regions h))
        → (h : Gate) × (h ∈ (g ∷ t)) × (r ∈ gate_regions h)
    go (inl k) ih = (g, here refl, k)
    go (inr k) ih = let a = ih k in (a.0, there a.1, a.2)

-- the region of a quadrant
abbrev pub quadrant_region : Option Name → Quadrant → Region
quadrant_region p q = record { name = q.name; parent = p; shape = leaf q.box }

-- all regions of a gate refer to what it refers to
refer_alike : (n : Name) (p : Option Name) (b : Body) (r : Region) → r ∈ regions_of n p b → references r ≡ parent_names p ++ body_references b
refer_alike n p (one s) r m = go (Memᴰ.cases_cons m)
  where
    go : (r ≡ record { name = n; parent = p; shape = s }) ⊎ (r ∈ []) → references r ≡ parent_names p ++ operand_names s
    go (inl e) = rw e
    go (inr k) = absurd (Memᴰ.not-nil k)
refer_alike n p (quad qs) r m = let q = map-from (quadrant_region p) qs m in rw q.2

-- ---- the names of regions are among those given

quadrant-names : (p : Option Name) (qs : List Quadrant) → names (map (quadrant_region p) qs) ≡ map (λ (q : Quadrant). q.name) qs
quadrant-names p [] = refl
quadrant-names p (q ∷ qs) = ap (λ (l : List Name). q.name ∷ l) (quadrant-names p qs)

own-distinct : (n : Name) (p : Option Name) (b : Body) → Distinct (n ∷ quadrant_names b) → Distinct (names (regions_of n p b))
own-distinct n p (one s) d = (λ m. Memᴰ.not-nil m, tt)
own-distinct n p (quad qs) d = rw (quadrant-names p qs) d.1

own-given : (n : Name) (p : Option Name) (b : Body) {x : Name} → x ∈ names (regions_of n p b) → x ∈ (n ∷ quadrant_names b)
own-given n p (one s) m = m
own-given n p (quad qs) m = there (rw (quadrant-names p qs) at m)

name-given : (t : List Gate) {x : Name} → x ∈ names (regions t) → x ∈ given t
name-given [] m = m
name-given (g ∷ t) {x} m =
    go (Memᴰ.append_cases (names (gate_regions g)) (rw (map-append (λ (r : Region). r.name) (gate_regions g) (regions t)) at m)) (λ k. name-given t k)
  where
    go : (x ∈ names (gate_regions g)) ⊎ (x ∈ names (regions t)) → (x ∈ names (regions t) → x ∈ given t) → x ∈ given (g ∷ t)
    go (inl k) ih = Memᴰ.append_left (given t) (own-given g.name g.parent g.body k)
    go (inr k) ih = Memᴰ.append_right (own_names g) (ih k)

regions-distinct : (t : List Gate) → Distinct (given t) → Distinct (names (regions t))
regions-distinct [] d = tt
regions-distinct (g ∷ t) d =
    let s = split (own_names g) (given t) d in
    rw (map-append (λ (r : Region). r.name) (gate_regions g) (regions t))
    (unite (names (gate_regions g)) (names (regions t)) (own-distinct g.name g.parent g.body s.0) (regions-distinct t s.1)
    (λ n i j. s.2 n (own-given g.name g.parent g.body i) (name-given t j)))

-- ---- the regions of a table that keeps the rules

module _ (t : List Gate) (ok : Rules t) where
  live : (r : Region) → r ∈ regions t → (n : Name) → n ∈ references r → n ∈ names (regions t)
  live r m n k = let g = gate_of-region t r m in ok.alive g.0 g.1 n (rw (refer_alike g.0.name g.0.parent g.0.body r g.2) at k)

  arrives : {a b : Region} → Reaches (Refer (regions t)) a b → b ∈ regions t
  arrives (refers e) = e.0
  arrives (refers_on e p) = arrives p

  -- a reference between regions is one between their gates
  edge : (a b : Region) (g h : Gate) → h ∈ t → a ∈ gate_regions g → b ∈ gate_regions h → b.name ∈ references a → Refers t g h
  unfolding refers_to
  edge a b g h i j k m =
      (i, some_at (is_in (names (gate_regions h))) (rw (refer_alike g.name g.parent g.body a j) at m) (in_list (map_in (λ (x : Region). x.name) k)))

  of-gates : {a b : Region} → Reaches (Refer (regions t)) a b → (g h : Gate) → a ∈ gate_regions g → h ∈ t → b ∈ gate_regions h → Reaches (Refers t) g h
  of-gates (refers {a = a} {b = b} e) g h j i k = refers (edge a b g h i j k e.1)
  of-gates (refers_on {a = a} {b = b} e p) g h j i k =
      let f = gate_of-region t b e.0 in
      refers_on (edge a b g f.0 f.1 j f.2 e.1) (of-gates p f.0 h f.2 i k)

  loopless : (r : Region) → Reaches (Refer (regions t)) r r → ⊥
  loopless r p = let g = gate_of-region t r (arrives p) in ok.no_circle g.0 (of-gates p g.0 g.0 g.2 g.1 g.2)

  pub orderly : Orderly (regions t)
  orderly = record { few = ok.few; distinct = regions-distinct t ok.distinct; live = live; loopless = loopless }

-- ---- another order

pub moved : {A : Type 0} {l k : List A} {a : A} → Permᴰ l k → a ∈ l → a ∈ k
moved Permᴰ.nil m = m
moved {a} (Permᴰ.cons {a = x} {b = y} {l₁ = l} {l₂ = k} e p) m = go (Memᴰ.cases_cons m) (λ i. moved p i)
  where
    go : (a ≡ x) ⊎ (a ∈ l) → (a ∈ l → a ∈ k) → a ∈ (y ∷ k)
    go (inl q) ih = here (q ∙ e)
    go (inr i) ih = there (ih i)
moved {a} (Permᴰ.swap {a = x} {b = y} {a' = u} {b' = v} {l = l} e f) m = go (Memᴰ.cases_cons m)
  where
    second : (a ≡ y) ⊎ (a ∈ l) → a ∈ (u ∷ v ∷ l)
    second (inl q) = here (q ∙ f)
    second (inr i) = there (there i)

    go : (a ≡ x) ⊎ (a ∈ (y ∷ l)) → a ∈ (u ∷ v ∷ l)
    go (inl q) = there (here (q ∙ e))
    go (inr i) = second (Memᴰ.cases_cons i)
moved (Permᴰ.trans p q) m = moved q (moved p m)

pub moved-map : {A B : Type 0} (f : A → B) {l k : List A} → Permᴰ l k → Permᴰ (map f l) (map f k)
moved-map f Permᴰ.nil = Permᴰ.nil
moved-map f (Permᴰ.cons e p) = Permᴰ.cons (ap f e) (moved-map f p)
moved-map f (Permᴰ.swap e g) = Permᴰ.swap (ap f e) (ap f g)
moved-map f (Permᴰ.trans p q) = Permᴰ.trans (moved-map f p) (moved-map f q)

given_by : (t : List Gate) (n : Name) → n ∈ given t → (g : Gate) × (g ∈ t) × (n ∈ own_names g)
given_by [] n m = absurd (Memᴰ.not-nil m)
given_by (g ∷ t) n m = go (Memᴰ.append_cases (own_names g) m) (λ k. given_by t n k)
  where
    go : (n ∈ own_names g) ⊎ (n ∈ given t) → (n ∈ given t → (h : Gate) × (h ∈ t) × (n ∈ own_names h)) → (h : Gate) × (h ∈ (g ∷ t)) × (n ∈ own_names h)
    go (inl k) ih = (g, here refl, k)
    go (inr k) ih = let a = ih k in (a.0, there a.1, a.2)

gives : {g : Gate} {t : List Gate} (n : Name) → g ∈ t → n ∈ own_names g → n ∈ given t
gives n (here {x = h} {xs = t} e) m = Memᴰ.append_left (given t) (rw e at m)
gives n (there {x = h} m) k = Memᴰ.append_right (own_names h) (gives n m k)

module _ {t u : List Gate} (p : Permᴰ t u) where
  moved-given : {n : Name} → n ∈ given t → n ∈ given u
  moved-given {n} m = let g = given_by t n m in gives n (moved p g.1) g.2

  pub moved-region : {r : Region} → r ∈ regions t → r ∈ regions u
  moved-region {r} m = let g = gate_of-region t r m in region-of_gate r (moved p g.1) g.2

  pub moved-name : {n : Name} → n ∈ names (regions t) → n ∈ names (regions u)
  moved-name {n} m = let r = map-from (λ (x : Region). x.name) (regions t) m in Memᴰ.cast r.2 (map_in (λ (x : Region). x.name) (moved-region r.1))

swap_distinct : (l k m : List Name) → Distinct (l ++ (k ++ m)) → Distinct (k ++ (l ++ m))
swap_distinct l k m d =
    let s = split l (k ++ m) d in
    let r = split k m s.1 in
    unite k (l ++ m) r.0 (unite l m s.0 r.1 (λ n i j. s.2 n i (Memᴰ.append_right k j)))
    (λ n i j. ⊎_elim (λ x. s.2 n x (Memᴰ.append_left m i)) (λ x. r.2 n i x) (Memᴰ.append_cases l j))

next-distinct : (g : Gate) (t u : List Gate) → Permᴰ t u → Distinct (given (g ∷ t)) → (Distinct (given t) → Distinct (given u)) → Distinct (given (g ∷ u))
next-distinct g t u p d ih =
    let s = split (own_names g) (given t) d in
    unite (own_names g) (given u) s.0 (ih s.1) (λ n i j. s.2 n i (moved-given (Permᴰ.symm p) j))

moved-distinct : {t u : List Gate} → Permᴰ t u → Distinct (given t) → Distinct (given u)
moved-distinct Permᴰ.nil d = d
moved-distinct (Permᴰ.cons {a = g} {b = h} {l₁ = t} {l₂ = u} e p) d = rw (← e) (next-distinct g t u p d (λ x. moved-distinct p x))
moved-distinct (Permᴰ.swap {a = a} {b = b} {a' = a'} {b' = b'} {l = t} e f) d = rw (← e, ← f) (swap_distinct (own_names a) (own_names b) (given t) d)
moved-distinct (Permᴰ.trans p q) d = moved-distinct q (moved-distinct p d)

sum-regions : (f : Region → ℕ) (t : List Gate) → sum_of f (regions t) ≡ sum_of (λ g. sum_of f (gate_regions g)) t
sum-regions f [] = refl
sum-regions f (g ∷ t) = sum_append f (gate_regions g) (regions t) ∙ ap (λ (n : ℕ). sum_of f (gate_regions g) + n) (sum-regions f t)

module _ (t u : List Gate) (p : Permᴰ t u) where
  pub moved_sum : (f : Region → ℕ) → sum_of f (regions u) ≡ sum_of f (regions t)
  moved_sum f = sum-regions f u ∙ sym (sum_moved (λ g. sum_of f (gate_regions g)) p) ∙ sym (sum-regions f t)

  moved-few : length (regions u) ≡ length (regions t)
  moved-few = sym (sum_one (regions u)) ∙ moved_sum (λ r. 1) ∙ sum_one (regions t)

  pub moved-rules : Rules t → Rules u
  moved-rules ok = record {
    few = rw moved-few ok.few;
    distinct = moved-distinct p ok.distinct;
    alive = λ g m n k. moved-name p (ok.alive g (moved (Permᴰ.symm p) m) n k);
    no_circle = λ g r. ok.no_circle g (along (λ a b e. refers (moved (Permᴰ.symm p) e.0, e.1)) r);
  }

  pub moved_obeys : (e : Event) (m : Name → Bool) → Obeys (regions t) e m → Obeys (regions u) e m
  moved_obeys e m o r k = o r (moved-region (Permᴰ.symm p) k)
