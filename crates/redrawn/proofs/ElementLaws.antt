-- What redrawing keeps of a list: its elements in another order, what holds of each of them, and what a function makes of them.
use mathlib.Core.Path.{◌≡◌, refl, ap, subst, ◌∙◌}
use mathlib.Core.Bool.{Bool, true, false}
use mathlib.Core.List.Permᴰ
use mathlib.Core.List.{List, [], ◌∷◌, ◌++◌, map, map-append, Permᴰ}
use Prim.Native.Nat.{ℕ, zero, suc, ◌*◌, ◌<◌}
use native.Mathlib.Omega.{arith}
use lib.ListN.{length, take, drop, get_or, take-append-drop}
use Rattle.redrawn.specs.Redrawing.{from_vertex, backwards, redrawn}

-- ---- the elements are the same in another order, also where half a vertex is over
module _ {A : Type 0} where
  elements_from : (k : ℕ) (v : List A) → Permᴰ v (from_vertex k v)
  unfolding from_vertex
  elements_from k v =
      rw (take-append-drop (2 * k) v) at (Permᴰ.append_comm (take (2 * k) v) (drop (2 * k) v))

  elements_back : (v : List A) → Permᴰ v (backwards v)
  unfolding backwards
  elements_back [] = Permᴰ.nil
  elements_back (x ∷ []) = Permᴰ.refl (x ∷ [])
  elements_back (x ∷ (y ∷ v)) =
      Permᴰ.trans (Permᴰ.append_comm (x ∷ (y ∷ [])) v) (Permᴰ.append_right (x ∷ (y ∷ [])) (elements_back v))

  pub elements_permuted : (k : ℕ) (back : Bool) (v : List A) → Permᴰ v (redrawn k back v)
  unfolding redrawn
  elements_permuted k false v = elements_from k v
  elements_permuted k true v = Permᴰ.trans (elements_from k v) (elements_back (from_vertex k v))

-- ---- what holds of every element
module _ {A : Type 0} (P : A → Type 0) where
  pub data Each : List A → Type 0 where
    nothing : Each []
    this : {x : A} {v : List A} → P x → Each v → Each (x ∷ v)

  pub each_permuted : {v w : List A} → Permᴰ v w → Each v → Each w
  each_permuted Permᴰ.nil r = r
  each_permuted (Permᴰ.cons e q) (this p r) = this (subst P e p) (each_permuted q r)
  each_permuted (Permᴰ.swap e f) (this p (this q r)) = this (subst P f q) (this (subst P e p) r)
  each_permuted (Permᴰ.trans q s) r = each_permuted s (each_permuted q r)

  pub each_redrawn : (k : ℕ) (back : Bool) {v : List A} → Each v → Each (redrawn k back v)
  each_redrawn k back {v} r = each_permuted (elements_permuted k back v) r

  -- by index
  pub each_at : {v : List A} → Each v → (d : A) (i : ℕ) → i < length v → P (get_or v i d)
  each_at nothing d i h = absurd (omega arith)
  each_at (this p r) d zero h = p
  each_at (this p r) d (suc i) h = each_at r d i (omega arith)

  pub each_of : (v : List A) (d : A) → ((i : ℕ) → i < length v → P (get_or v i d)) → Each v
  each_of [] d f = nothing
  each_of (x ∷ v) d f = this (f 0 (omega arith)) (each_of v d (λ i h. f (suc i) (omega arith)))

-- ---- a function of each element goes along
module _ {A B : Type 0} (f : A → B) where
  map-take : (n : ℕ) (v : List A) → map f (take n v) ≡ take n (map f v)
  map-take zero v = refl
  map-take (suc n) [] = refl
  map-take (suc n) (x ∷ v) = ap (λ (l : List B). f x ∷ l) (map-take n v)

  map-drop : (n : ℕ) (v : List A) → map f (drop n v) ≡ drop n (map f v)
  map-drop zero v = refl
  map-drop (suc n) [] = refl
  map-drop (suc n) (x ∷ v) = map-drop n v

  map_back : (v : List A) → map f (backwards v) ≡ backwards (map f v)
  unfolding backwards
  map_back [] = refl
  map_back (x ∷ []) = refl
  map_back (x ∷ (y ∷ v)) = map-append f (backwards v) (x ∷ (y ∷ [])) ∙ ap (λ (l : List B). l ++ (f x ∷ (f y ∷ []))) (map_back v)

  map-from : (k : ℕ) (v : List A) → map f (from_vertex k v) ≡ from_vertex k (map f v)
  unfolding from_vertex
  map-from k v = map-append f (drop (2 * k) v) (take (2 * k) v) ∙ rw (map-drop (2 * k) v, map-take (2 * k) v)

  pub map-redrawn : (k : ℕ) (back : Bool) (v : List A) → map f (redrawn k back v) ≡ redrawn k back (map f v)
  unfolding redrawn
  map-redrawn k false v = map-from k v
  map-redrawn k true v = map_back (from_vertex k v) ∙ ap backwards (map-from k v)
