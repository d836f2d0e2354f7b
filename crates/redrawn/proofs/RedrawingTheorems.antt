-- What redrawing is: the same vertices in another order, which another redrawing undoes; it is all one whether the start or the direction changes first.
use mathlib.Core.Path.{◌≡◌, refl, sym, ap, ap₂, ◌∙◌}
use mathlib.Core.Bool.{Bool, true, false}
use mathlib.Core.List.Permᴰ
use mathlib.Core.List.{List, [], ◌∷◌, ◌++◌, append-nil, append_assoc, Permᴰ}
use Prim.Native.Nat.{ℕ, ◌-◌, ◌*◌, ◌/◌, ◌%◌, ◌<◌, ◌≤◌}
use native.Mathlib.Omega.{arith}
use native.Mathlib.Decide.{dec_lt}
use lib.ListN.{length, take, drop, length-take, length-drop, take-append-drop}
use lib.Seq.{take_at, drop_at, take_all}
use Rattle.redrawn.specs.Redrawing.{from_vertex, backwards, redrawn, vertices}
use Rattle.redrawn.proofs.VertexLaws.{length_back, none_left, Pairs, none, pair, pairs, pairs_take, pairs_drop, pairs_from, pairs_back}

-- ---- the vertices, one by one, are the same in another order
module _ {A : Type 0} where
  vertices_append : {a : List A} → Pairs a → (b : List A) → vertices (a ++ b) ≡ vertices a ++ vertices b
  vertices_append none b = refl
  vertices_append (pair {x} {y} r) b = ap (λ (l : List (A × A)). (x, y) ∷ l) (vertices_append r b)

  vertices-from : (k : ℕ) {v : List A} → Pairs v → Permᴰ (vertices v) (vertices (from_vertex k v))
  unfolding from_vertex
  vertices-from k {v} r =
      let a = pairs_take k r in
      let b = pairs_drop k r in
      let e : vertices (take (2 * k) v) ++ vertices (drop (2 * k) v) ≡ vertices v =
      sym (vertices_append a (drop (2 * k) v)) ∙ ap vertices (take-append-drop (2 * k) v) in
      rw (vertices_append b (take (2 * k) v), ← e) (Permᴰ.append_comm (vertices (take (2 * k) v)) (vertices (drop (2 * k) v)))

  vertices-back : {v : List A} → Pairs v → Permᴰ (vertices v) (vertices (backwards v))
  unfolding backwards
  vertices-back none = Permᴰ.nil
  vertices-back (pair {x = x} {y = y} {v = v} r) =
      rw (vertices_append (pairs_back r) (x ∷ (y ∷ [])))
      (Permᴰ.trans (Permᴰ.cons refl (vertices-back r)) (Permᴰ.append_comm ((x, y) ∷ []) (vertices (backwards v))))

  pub vertices-permuted : (k : ℕ) (back : Bool) (v : List A) → length v % 2 ≡ 0 → Permᴰ (vertices v) (vertices (redrawn k back v))
  unfolding redrawn
  vertices-permuted k false v whole = vertices-from k (pairs v whole)
  vertices-permuted k true v whole = Permᴰ.trans (vertices-from k (pairs v whole)) (vertices-back (pairs_from k (pairs v whole)))

-- ---- undone, and in the other order
module _ {A : Type 0} where
  -- ---- backwards

  back_append : {a : List A} → Pairs a → (b : List A) → backwards (a ++ b) ≡ backwards b ++ backwards a
  unfolding backwards
  back_append none b = sym (append-nil (backwards b))
  back_append (pair {x = x} {y = y} {v = v} r) b =
      ap (λ (l : List A). l ++ (x ∷ (y ∷ []))) (back_append r b) ∙ append_assoc (backwards b) (backwards v) (x ∷ (y ∷ []))

  -- twice is not at all
  pub back-back : {v : List A} → Pairs v → backwards (backwards v) ≡ v
  unfolding backwards
  back-back none = refl
  back-back (pair {x = x} {y = y} r) = back_append (pairs_back r) (x ∷ (y ∷ [])) ∙ ap (λ (l : List A). x ∷ (y ∷ l)) (back-back r)

  -- ---- two parts of an outline, the first of k vertices: drawn from there, they change places

  parts_from : (k : ℕ) (a b : List A) → length a ≡ 2 * k → from_vertex k (a ++ b) ≡ b ++ a
  unfolding from_vertex
  parts_from k a b h = ap₂ ◌++◌ (drop_at a b (2 * k) h) (take_at a b (2 * k) h)

  -- past the last vertex nothing is left to begin with
  past_end : (k : ℕ) (v : List A) → length v ≤ 2 * k → from_vertex k v ≡ v
  unfolding from_vertex
  past_end k v h = ap₂ ◌++◌ (none_left (drop (2 * k) v) (simp length-drop (omega arith))) (take_all (2 * k) v h)

  module _ (v : List A) (whole : length v % 2 ≡ 0) (k : ℕ) (inside : 2 * k ≤ length v) where
    front : List A
    front = take (2 * k) v

    rest : List A
    rest = drop (2 * k) v

    -- the number of vertices from k on
    abbrev left : ℕ
    left = length v / 2 - k

    front_length : length front ≡ 2 * k
    unfolding front
    front_length = simp length-take (omega arith)

    rest-length : length rest ≡ 2 * left
    unfolding rest
    rest-length = simp length-drop (omega arith)

    front-whole : Pairs front
    unfolding front
    front-whole = pairs_take k (pairs v whole)

    rest-whole : Pairs rest
    unfolding rest
    rest-whole = pairs_drop k (pairs v whole)

    joined : front ++ rest ≡ v
    unfolding front rest
    joined = take-append-drop (2 * k) v

    from_is : from_vertex k v ≡ rest ++ front
    unfolding from_vertex front rest
    from_is = refl

    -- on from the last of them it begins again with the first
    from_undone : from_vertex left (from_vertex k v) ≡ v
    from_undone = rw from_is (parts_from left rest front rest-length) ∙ joined

    -- backwards, the vertices from k on come first
    back_from : from_vertex left (backwards v) ≡ redrawn k true v
    unfolding redrawn
    back_from =
        let other : backwards v ≡ backwards rest ++ backwards front = ap backwards (sym joined) ∙ back_append front-whole rest in
        rw other (parts_from left (backwards rest) (backwards front) (length_back rest ∙ rest-length))
        ∙ sym (ap backwards from_is ∙ back_append rest-whole front)

    -- the other way round from vertex k on, twice
    turned_undone : redrawn k true (redrawn k true v) ≡ v
    unfolding redrawn
    turned_undone =
        let once : backwards (from_vertex k v) ≡ backwards front ++ backwards rest = ap backwards from_is ∙ back_append rest-whole front in
        rw (once, parts_from k (backwards front) (backwards rest) (length_back front ∙ front_length))
        (back_append (pairs_back rest-whole) (backwards front) ∙ ap₂ ◌++◌ (back-back front-whole) (back-back rest-whole) ∙ joined)

  -- every redrawing is undone by another: a new start by a new start, a turn by a turn
  pub redrawn_undone : (k : ℕ) (back : Bool) (v : List A) → length v % 2 ≡ 0 → (j : ℕ) × (redrawn j back (redrawn k back v) ≡ v)
  unfolding redrawn
  redrawn_undone k back v whole = go back (dec_lt (length v) (2 * k))
    where
      go : (b : Bool) → Dec (length v < 2 * k) → (j : ℕ) × (redrawn j b (redrawn k b v) ≡ v)
      go false (yes h) = (k, ap (from_vertex k) (past_end k v (omega arith)) ∙ past_end k v (omega arith))
      go false (no h) = (length v / 2 - k, from_undone v whole k (omega arith))
      go true (yes h) =
          let n = length_back v in
          let once = past_end k v (omega arith) in
          let again = past_end k (backwards v) (omega arith) in
          (k, rw (once, again) (back-back (pairs v whole)))
      go true (no h) = (k, turned_undone v whole k (omega arith))

  -- the direction first and then vertex j of the way back as the start: one of the redrawings, too
  pub direction_first : (j : ℕ) (v : List A) → length v % 2 ≡ 0 → from_vertex j (backwards v) ≡ redrawn (length v / 2 - j) true v
  direction_first j v whole = go (dec_lt (length v) (2 * j))
    where
      go : Dec (length v < 2 * j) → from_vertex j (backwards v) ≡ redrawn (length v / 2 - j) true v
      go (yes h) =
          let n = length_back v in
          let all : length v / 2 - 0 ≡ length v / 2 = omega arith in
          let none : length v / 2 - j ≡ 0 = omega arith in
          past_end j (backwards v) (omega arith)
          ∙ sym (past_end (length v / 2 - 0) (backwards v) (omega arith))
          ∙ back_from v whole 0 (omega arith) ∙ ap (λ (i : ℕ). redrawn i true v) (sym none)
      go (no h) =
          let e : j ≡ length v / 2 - (length v / 2 - j) = omega arith in
          ap (λ (i : ℕ). from_vertex i (backwards v)) e ∙ back_from v whole (length v / 2 - j) (omega arith)
