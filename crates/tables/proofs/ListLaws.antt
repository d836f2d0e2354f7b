-- Tests as equations, tests over the elements of a list, and elements by index.
use mathlib.Core.Path.{◌≡◌, refl, sym, ap}
use mathlib.Core.Bool.{Bool, true, false, not, ◌&&◌, ◌||◌}
use mathlib.Core.Logic.{◌⊎◌, inl, inr}
use mathlib.Core.List.Memᴰ
use mathlib.Core.List.Memᴰ.{head as here}
use mathlib.Core.List.Memᴰ.{tail as there}
use mathlib.Core.List.{List, [], ◌∷◌, map}
use Prim.Native.Nat.{ℕ, zero, suc, ◌<◌}
use native.Mathlib.Omega.{arith}
use lib.ListN.{length, get_or}
use Rattle.text.specs.Bytes.{every}
use Rattle.text.proofs.TestLaws.{true≢false, and_left, and_right}
use Rattle.tables.specs.Table.{◌∈◌, some_of}

-- ---- tests

pub not-not : (b : Bool) → not b ≡ false → b ≡ true
not-not true e = refl
not-not false e = absurd (true≢false e)

pub not-true : (b : Bool) → not b ≡ true → b ≡ false
not-true true e = absurd (true≢false (sym e))
not-true false e = refl

pub unless : (b : Bool) → (b ≡ true → ⊥) → b ≡ false
unless true h = absurd (h refl)
unless false h = refl

-- tests that pass together are equal
pub both_ways : (a b : Bool) → (a ≡ true → b ≡ true) → (b ≡ true → a ≡ true) → a ≡ b
both_ways true b f g = sym (f refl)
both_ways false true f g = g refl
both_ways false false f g = refl

pub and_fails : (a b : Bool) → (a && b) ≡ false → (a ≡ false) ⊎ (b ≡ false)
and_fails true b e = inr e
and_fails false b e = inl refl

pub or_passes : (a b : Bool) → (a || b) ≡ true → (a ≡ true) ⊎ (b ≡ true)
or_passes true b e = inl refl
or_passes false b e = inr e

pub or_left : (a b : Bool) → a ≡ true → (a || b) ≡ true
or_left a b e = rw e

pub or_right : (a b : Bool) → b ≡ true → (a || b) ≡ true
or_right true b e = refl
or_right false b e = e

-- ---- tests over the elements

module _ {A : Type 0} (f : A → Bool) where
  pub some_at : {x : A} {l : List A} → x ∈ l → f x ≡ true → some_of f l ≡ true
  some_at (here {x = y} {xs = l} e) h = or_left (f y) (some_of f l) (rw e at h)
  some_at (there {x = y} {xs = l} m) h = or_right (f y) (some_of f l) (some_at m h)

  pub some-found : (l : List A) → some_of f l ≡ true → (x : A) × (x ∈ l) × (f x ≡ true)
  some-found [] h = absurd (true≢false (sym h))
  some-found (y ∷ l) h = go (or_passes (f y) (some_of f l) h) (some-found l)
    where
      go : (f y ≡ true) ⊎ (some_of f l ≡ true) → (some_of f l ≡ true → (x : A) × (x ∈ l) × (f x ≡ true)) → (x : A) × (x ∈ (y ∷ l)) × (f x ≡ true)
      go (inl e) ih = (y, here refl, e)
      go (inr e) ih = let r = ih e in (r.0, there r.1, r.2)

  pub every-at : {x : A} {l : List A} → x ∈ l → every f l ≡ true → f x ≡ true
  every-at (here {x = y} {xs = l} e) h = rw e (and_left (f y) (every f l) h)
  every-at (there {x = y} {xs = l} m) h = every-at m (and_right (f y) (every f l) h)

  pub every_of : (l : List A) → ((x : A) → x ∈ l → f x ≡ true) → every f l ≡ true
  every_of [] h = refl
  every_of (y ∷ l) h = rw (h y (here refl)) (every_of l (λ x m. h x (there m)))

  pub every-fails : (l : List A) → every f l ≡ false → (x : A) × (x ∈ l) × (f x ≡ false)
  every-fails [] h = absurd (true≢false h)
  every-fails (y ∷ l) h = go (and_fails (f y) (every f l) h) (every-fails l)
    where
      go : (f y ≡ false) ⊎ (every f l ≡ false) → (every f l ≡ false → (x : A) × (x ∈ l) × (f x ≡ false)) → (x : A) × (x ∈ (y ∷ l)) × (f x ≡ false)
      go (inl e) ih = (y, here refl, e)
      go (inr e) ih = let r = ih e in (r.0, there r.1, r.2)

-- ---- elements of a list made from another

pub map_in : {A B : Type 0} (f : A → B) {x : A} {l : List A} → x ∈ l → f x ∈ map f l
map_in f (here e) = here (ap f e)
map_in f (there m) = there (map_in f m)

pub map-from : {A B : Type 0} (f : A → B) {y : B} (l : List A) → y ∈ map f l → (x : A) × (x ∈ l) × (y ≡ f x)
map-from f [] m = absurd (Memᴰ.not-nil m)
map-from {A} {B} f {y} (a ∷ l) m = go (Memᴰ.cases_cons m) (λ k. map-from f l k)
  where
    go : (y ≡ f a) ⊎ (y ∈ map f l) → (y ∈ map f l → (x : A) × (x ∈ l) × (y ≡ f x)) → (x : A) × (x ∈ (a ∷ l)) × (y ≡ f x)
    go (inl e) ih = (a, here refl, e)
    go (inr k) ih = let r = ih k in (r.0, there r.1, r.2)

-- ---- elements by index

module _ {A : Type 0} (d : A) where
  pub at_in : (l : List A) (i : ℕ) → i < length l → get_or l i d ∈ l
  at_in [] i h = absurd (omega arith)
  at_in (x ∷ l) zero h = here refl
  at_in (x ∷ l) (suc i) h = there (at_in l i (omega arith))

  pub index_of : {x : A} (l : List A) → x ∈ l → (i : ℕ) × (i < length l) × (get_or l i d ≡ x)
  index_of [] m = absurd (Memᴰ.not-nil m)
  index_of {x} (y ∷ l) m = go (Memᴰ.cases_cons m) (index_of l)
    where
      go : (x ≡ y) ⊎ (x ∈ l) → (x ∈ l → (i : ℕ) × (i < length l) × (get_or l i d ≡ x)) → (i : ℕ) × (i < suc (length l)) × (get_or (y ∷ l) i d ≡ x)
      go (inl e) ih = (0, omega arith, sym e)
      go (inr k) ih =
          let r = ih k in
          let h : r.0 < length l = r.1 in
          (suc r.0, omega arith, r.2)
