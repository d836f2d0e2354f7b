-- What redrawing keeps of a list: its length, and that its vertices are whole; and where each element stands then.
use mathlib.Core.Path.{◌≡◌, refl, sym, ap, ◌∙◌}
use mathlib.Core.Bool.{Bool, true, false}
use mathlib.Core.List.{List, [], ◌∷◌, ◌++◌}
use Prim.Native.Nat.{ℕ, zero, suc, ◌+◌, ◌-◌, ◌*◌, ◌%◌, ◌<◌, ◌≤◌}
use native.Mathlib.Omega.{arith}
use native.Mathlib.Decide.{dec_lt}
use lib.ListN.{length, take, drop, get_or, length-append, length-take, length-drop, get_or-append}
use lib.Seq.{get_or-append-add, get_or-take, get_or-drop}
use Rattle.redrawn.specs.Redrawing.{from_vertex, backwards, redrawn}

-- ---- the length
module _ {A : Type 0} where
  pub length_from : (k : ℕ) (v : List A) → length (from_vertex k v) ≡ length v
  unfolding from_vertex
  length_from k v = simp (length-append, length-take, length-drop) (omega arith)

  pub length_back : (v : List A) → length (backwards v) ≡ length v
  unfolding backwards
  length_back [] = refl
  length_back (x ∷ []) = refl
  length_back (x ∷ (y ∷ v)) = let h = length_back v in simp length-append (omega arith)

  pub length-redrawn : (k : ℕ) (back : Bool) (v : List A) → length (redrawn k back v) ≡ length v
  unfolding redrawn
  length-redrawn k false v = length_from k v
  length-redrawn k true v = length_back (from_vertex k v) ∙ length_from k v

pub none_left : {A : Type 0} (l : List A) → length l ≡ 0 → l ≡ []
none_left [] h = refl
none_left (x ∷ l) h = absurd (omega arith)

-- ---- whole vertices
module _ {A : Type 0} where
  pub data Pairs : List A → Type 0 where
    none : Pairs []
    pair : {x y : A} {v : List A} → Pairs v → Pairs (x ∷ (y ∷ v))

  pub pairs : (v : List A) → length v % 2 ≡ 0 → Pairs v
  pairs [] h = none
  pairs (x ∷ []) h = absurd (omega arith)
  pairs (x ∷ (y ∷ v)) h = pair (pairs v (omega arith))

  pub even : {v : List A} → Pairs v → length v % 2 ≡ 0
  even none = refl
  even (pair r) = let h = even r in omega arith

  pub pairs_append : {a b : List A} → Pairs a → Pairs b → Pairs (a ++ b)
  pairs_append none s = s
  pairs_append (pair r) s = pair (pairs_append r s)

  pub pairs_take : {v : List A} (k : ℕ) → Pairs v → Pairs (take (2 * k) v)
  pairs_take {v} k r = let h = even r in pairs (take (2 * k) v) (simp length-take (omega arith))

  pub pairs_drop : {v : List A} (k : ℕ) → Pairs v → Pairs (drop (2 * k) v)
  pairs_drop {v} k r = let h = even r in pairs (drop (2 * k) v) (simp length-drop (omega arith))

  pub pairs_from : {v : List A} (k : ℕ) → Pairs v → Pairs (from_vertex k v)
  pairs_from {v} k r = pairs (from_vertex k v) (rw (length_from k v) (even r))

  pub pairs_back : {v : List A} → Pairs v → Pairs (backwards v)
  pairs_back {v} r = pairs (backwards v) (rw (length_back v) (even r))

-- ---- the elements by their places
module _ {A : Type 0} (v : List A) (d : A) where
  -- from vertex k on: those from there, then those before it
  pub from-there : (k i : ℕ) → 2 * k + i < length v → get_or (from_vertex k v) i d ≡ get_or v (2 * k + i) d
  unfolding from_vertex
  from-there k i h = get_or-append (drop (2 * k) v) (take (2 * k) v) d i (simp length-drop (omega arith)) ∙ get_or-drop (2 * k) v i d

  pub from-before : (k i : ℕ) → i < 2 * k → 2 * k ≤ length v → get_or (from_vertex k v) (length v - 2 * k + i) d ≡ get_or v i d
  unfolding from_vertex
  from-before k i l h =
      ap (λ (n : ℕ). get_or (drop (2 * k) v ++ take (2 * k) v) (n + i) d) (sym (length-drop (2 * k) v))
      ∙ get_or-append-add (drop (2 * k) v) (take (2 * k) v) i d ∙ get_or-take (2 * k) v i d l

-- vertex j backwards is vertex j from the end; c is 0 for its x and 1 for its y
pub back_at : {A : Type 0} {v : List A} → Pairs v → (d : A) (j c : ℕ) → c < 2 → 2 * j + 2 ≤ length v
    → get_or (backwards v) (2 * j + c) d ≡ get_or v (length v - 2 - 2 * j + c) d
unfolding backwards
back_at none d j c l h = absurd (omega arith)
back_at {A} (pair {x = x} {y = y} {v = v} r) d j c l h = go (dec_lt (2 * j) (length v)) (back_at r d j c l)
  where
    go : Dec (2 * j < length v) → (2 * j + 2 ≤ length v → get_or (backwards v) (2 * j + c) d ≡ get_or v (length v - 2 - 2 * j + c) d)
        → get_or (backwards v ++ (x ∷ (y ∷ []))) (2 * j + c) d ≡ get_or (x ∷ (y ∷ v)) (suc (suc (length v)) - 2 - 2 * j + c) d
    go (yes u) ih =
        let w = even r in
        let n = length_back v in
        let e : suc (suc (length v)) - 2 - 2 * j + c ≡ suc (suc (length v - 2 - 2 * j + c)) = omega arith in
        get_or-append (backwards v) (x ∷ (y ∷ [])) d (2 * j + c) (omega arith) ∙ ih (omega arith) ∙ ap (λ (i : ℕ). get_or (x ∷ (y ∷ v)) i d) (sym e)
    go (no u) ih =
        let n = length_back v in
        let e : suc (suc (length v)) - 2 - 2 * j + c ≡ c = omega arith in
        let f : 2 * j + c ≡ length (backwards v) + c = omega arith in
        rw (e, f) (get_or-append-add (backwards v) (x ∷ (y ∷ [])) c d ∙ within c l)
      where
        within : (c : ℕ) → c < 2 → get_or (x ∷ (y ∷ [])) c d ≡ get_or (x ∷ (y ∷ v)) c d
        within zero l = refl
        within (suc zero) l = refl
        within (suc (suc c)) l = absurd (omega arith)
