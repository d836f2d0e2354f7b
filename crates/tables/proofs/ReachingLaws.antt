-- The bounded test finds exactly what is reached; a list in which each node has a successor holds a circle.
use mathlib.Core.Path.{◌≡◌, refl}
use mathlib.Core.Bool.{Bool, true, ◌&&◌}
use mathlib.Core.Logic.{◌⊎◌, inl, inr, ⊎_elim}
use mathlib.Core.List.Memᴰ
use mathlib.Core.List.Memᴰ.{head as here}
use mathlib.Core.List.Memᴰ.{tail as there}
use mathlib.Core.List.{List, [], ◌∷◌}
use Prim.Native.Nat.{ℕ, zero, suc, ◌<◌, ◌≤◌}
use native.Mathlib.Omega.{arith}
use native.Mathlib.Decide.{dec_lt}
use lib.ListN.{length}
use Rattle.text.proofs.TestLaws.{and_left, and_right}
use Rattle.gates.specs.Gate.{Gate}
use Rattle.tables.specs.Table.{◌∈◌, no_gate, nth_gate}
use Rattle.tables.specs.Reaching.{refers_at, reaches_by, reaches_itself}
use Rattle.tables.specs.Further.Reaching.{Reaches, refers, refers_on, Refers}
use Rattle.tables.proofs.ListLaws.{or_passes, or_left, or_right, at_in, index_of}

-- ---- paths

module _ {A : Type 0} where
  pub join : {E : A → A → Type 0} {a b c : A} → Reaches E a b → Reaches E b c → Reaches E a c
  join (refers e) q = refers_on e q
  join (refers_on e p) q = refers_on e (join p q)

  -- paths along one relation are paths along another, node by node
  pub along : {E F : A → A → Type 0} → ((a b : A) → E a b → Reaches F a b) → {a b : A} → Reaches E a b → Reaches F a b
  along f (refers {a = a} {b = b} e) = f a b e
  along f (refers_on {a = a} {b = b} e p) = join (f a b e) (along f p)

-- ---- the test, over numbers below k

module _ (edge : ℕ → ℕ → Bool) where
  abbrev pub Edge : ℕ → ℕ → ℕ → Type 0
  Edge k a b = (b < k) × (edge a b ≡ true)

  pub test_reaches : (k s : ℕ) → s ≤ k → (a b : ℕ) → b < k → reaches_by edge s a b ≡ true → Reaches (Edge k) a b
  unfolding reaches_by
  test_reaches k zero l a b h e = refers (h, e)
  test_reaches k (suc s) l a b h e = go (test_reaches k s (omega arith)) (or_passes (reaches_by edge s a b) (reaches_by edge s a s && reaches_by edge s s b) e)
    where
      go : ((x y : ℕ) → y < k → reaches_by edge s x y ≡ true → Reaches (Edge k) x y)
          → (reaches_by edge s a b ≡ true) ⊎ ((reaches_by edge s a s && reaches_by edge s s b) ≡ true)
          → Reaches (Edge k) a b
      go ih (inl u) = ih a b h u
      go ih (inr u) =
          join (ih a s (omega arith) (and_left (reaches_by edge s a s) (reaches_by edge s s b) u))
          (ih s b h (and_right (reaches_by edge s a s) (reaches_by edge s s b) u))

  -- one step needs no node between
  direct : (s a b : ℕ) → edge a b ≡ true → reaches_by edge s a b ≡ true
  unfolding reaches_by
  direct zero a b e = e
  direct (suc s) a b e = or_left (reaches_by edge s a b) _ (direct s a b e)

  module _ (s : ℕ) where
    past : (a b : ℕ) → reaches_by edge (suc s) a b ≡ true → (reaches_by edge s a b ≡ true) ⊎ ((reaches_by edge s a s ≡ true) × (reaches_by edge s s b ≡ true))
    unfolding reaches_by
    past a b e = go (or_passes (reaches_by edge s a b) (reaches_by edge s a s && reaches_by edge s s b) e)
      where
        go : (reaches_by edge s a b ≡ true) ⊎ ((reaches_by edge s a s && reaches_by edge s s b) ≡ true)
            → (reaches_by edge s a b ≡ true) ⊎ ((reaches_by edge s a s ≡ true) × (reaches_by edge s s b ≡ true))
        go (inl u) = inl u
        go (inr u) = inr (and_left (reaches_by edge s a s) (reaches_by edge s s b) u, and_right (reaches_by edge s a s) (reaches_by edge s s b) u)

    by_way : (a b : ℕ) → reaches_by edge s a s ≡ true → reaches_by edge s s b ≡ true → reaches_by edge (suc s) a b ≡ true
    unfolding reaches_by
    by_way a b e f = or_right (reaches_by edge s a b) _ (rw (e, f))

    wider : (a b : ℕ) → reaches_by edge s a b ≡ true → reaches_by edge (suc s) a b ≡ true
    unfolding reaches_by
    wider a b e = or_left (reaches_by edge s a b) _ e

    up_to : (a : ℕ) → reaches_by edge (suc s) a s ≡ true → reaches_by edge s a s ≡ true
    up_to a e = ⊎_elim (λ u. u) (λ u. u.0) (past a s e)

    onward : (b : ℕ) → reaches_by edge (suc s) s b ≡ true → reaches_by edge s s b ≡ true
    onward b e = ⊎_elim (λ u. u) (λ u. u.1) (past s b e)

    -- two paths that meet at m below s, where paths below s that meet there join
    joined : (m : ℕ) → ((x y : ℕ) → reaches_by edge s x m ≡ true → reaches_by edge s m y ≡ true → reaches_by edge s x y ≡ true) → (a b : ℕ)
        → reaches_by edge (suc s) a m ≡ true → reaches_by edge (suc s) m b ≡ true → reaches_by edge (suc s) a b ≡ true
    joined m ih a b e f = go (past a m e) (past m b f)
      where
        go : (reaches_by edge s a m ≡ true) ⊎ ((reaches_by edge s a s ≡ true) × (reaches_by edge s s m ≡ true))
            → (reaches_by edge s m b ≡ true) ⊎ ((reaches_by edge s m s ≡ true) × (reaches_by edge s s b ≡ true)) → reaches_by edge (suc s) a b ≡ true
        go (inl p) (inl q) = wider a b (ih a b p q)
        go (inl p) (inr q) = by_way a b (ih a s p q.0) q.1
        go (inr p) (inl q) = by_way a b p.0 (ih s b p.1 q)
        go (inr p) (inr q) = by_way a b p.0 q.1

  meet_at : (s m : ℕ) → m < s → (a b : ℕ) → reaches_by edge s a m ≡ true → reaches_by edge s m b ≡ true → reaches_by edge s a b ≡ true
  meet_at zero m h a b e f = absurd (omega arith)
  meet_at (suc s) m h a b e f = go (dec_lt m s) (meet_at s m)
    where
      go : Dec (m < s) → (m < s → (x y : ℕ) → reaches_by edge s x m ≡ true → reaches_by edge s m y ≡ true → reaches_by edge s x y ≡ true)
          → reaches_by edge (suc s) a b ≡ true
      go (yes l) ih = joined s m (ih l) a b e f
      go (no l) ih = let q : m ≡ s = omega arith in by_way s a b (up_to s a (rw q at e)) (onward s b (rw q at f))

  pub reaches_test : (k : ℕ) {a b : ℕ} → Reaches (Edge k) a b → reaches_by edge k a b ≡ true
  reaches_test k (refers {a = a} {b = b} e) = direct k a b e.1
  reaches_test k (refers_on {a = a} {b = b} {c = c} e p) = meet_at k b e.0 a c (direct k a b e.1) (reaches_test k p)

-- ---- the same of gates

module _ (t : List Gate) where
  pub gate_in : (i : ℕ) → i < length t → nth_gate t i ∈ t
  unfolding nth_gate
  gate_in i h = at_in no_gate t i h

  pub gate_index : {g : Gate} → g ∈ t → (i : ℕ) × (i < length t) × (nth_gate t i ≡ g)
  unfolding nth_gate
  gate_index m = index_of no_gate t m

  -- from numbers to gates, and back
  of-numbers : {i j : ℕ} → Reaches (Edge (refers_at t) (length t)) i j → Reaches (Refers t) (nth_gate t i) (nth_gate t j)
  unfolding refers_at
  of-numbers (refers {b = j} e) = refers (gate_in j e.0, e.1)
  of-numbers (refers_on {b = j} e p) = refers_on (gate_in j e.0, e.1) (of-numbers p)

  to-numbers : {g h : Gate} → Reaches (Refers t) g h → (i j : ℕ) → nth_gate t i ≡ g → j < length t → nth_gate t j ≡ h
      → Reaches (Edge (refers_at t) (length t)) i j
  unfolding refers_at
  to-numbers (refers e) i j p l q = refers {a = i} {b = j} (l, rw (p, q) e.1)
  to-numbers (refers_on {b = b} e r) i j p l q =
      let m = gate_index e.0 in
      refers_on {a = i} {b = m.0} (m.1, rw (p, m.2) e.1) (to-numbers r m.0 j m.2 l q)

  ends_in : {g h : Gate} → Reaches (Refers t) g h → h ∈ t
  ends_in (refers e) = e.0
  ends_in (refers_on e p) = ends_in p

  -- the test of a gate agrees with `Reaches`
  pub itself_reaches : (i : ℕ) → i < length t → reaches_itself t i ≡ true → Reaches (Refers t) (nth_gate t i) (nth_gate t i)
  unfolding reaches_itself
  itself_reaches i h e = of-numbers (test_reaches (refers_at t) (length t) (length t) (omega arith) i i h e)

  pub reaches_itself_lem : (g : Gate) → Reaches (Refers t) g g → (i : ℕ) × (i < length t) × (reaches_itself t i ≡ true)
  unfolding reaches_itself
  reaches_itself_lem g r = let m = gate_index (ends_in r) in (m.0, m.1, reaches_test (refers_at t) (length t) (to-numbers r m.0 m.0 m.2 m.1 m.2))

-- ---- circles: one node at a time is taken out, and the steps by way of it become steps of their own

module _ {A : Type 0} where
  abbrev Past : (A → A → Type 0) → A → A → A → Type 0
  Past E s a b = E a b ⊎ (E a s × E s b)

  flat : (E : A → A → Type 0) (s a b : A) → Past E s a b → Reaches E a b
  flat E s a b (inl e) = refers e
  flat E s a b (inr e) = refers_on e.0 (refers e.1)

  abbrev pub Next : (A → A → Type 0) → List A → A → Type 0
  Next E l a = (b : A) × (b ∈ l) × E a b

  next_past : (E : A → A → Type 0) (s : A) (l : List A) (c : A) → c ∈ l → E s c → (a : A) → Next E (s ∷ l) a → Next (Past E s) l a
  next_past E s l c k h a n = go (Memᴰ.cases_cons n.1)
    where
      go : (n.0 ≡ s) ⊎ (n.0 ∈ l) → Next (Past E s) l a
      go (inl e) = (c, k, inr (rw e at n.2, h))
      go (inr m) = (n.0, m, inl n.2)

  pub circle : (l : List A) (E : A → A → Type 0) → ((a : A) → a ∈ l → Next E l a) → (s : A) → s ∈ l → (a : A) × Reaches E a a
  circle [] E f s m = absurd (Memᴰ.not-nil m)
  circle (x ∷ l) E f s m = go (λ F. circle l F) (f x (here refl))
    where
      -- x's own successor is x, or lies among the others
      from : ((F : A → A → Type 0) → ((a : A) → a ∈ l → Next F l a) → (t : A) → t ∈ l → (a : A) × Reaches F a a)
          → (c : A) → E x c → (c ≡ x) ⊎ (c ∈ l) → (a : A) × Reaches E a a
      from ih c e (inl q) = (x, refers (rw q at e))
      from ih c e (inr k) = let r = ih (Past E x) (λ a n. next_past E x l c k e a (f a (there n))) c k in (r.0, along (flat E x) r.1)

      go : ((F : A → A → Type 0) → ((a : A) → a ∈ l → Next F l a) → (t : A) → t ∈ l → (a : A) × Reaches F a a) → Next E (x ∷ l) x → (a : A) × Reaches E a a
      go ih n = from ih n.0 n.2 (Memᴰ.cases_cons n.1)
