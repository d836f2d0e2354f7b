-- Sums over the indices below a number, and over a list.
use mathlib.Core.Path.{◌≡◌, refl, ap, ◌∙◌}
use mathlib.Core.List.Memᴰ.{head as here}
use mathlib.Core.List.Memᴰ.{tail as there}
use mathlib.Core.List.{List, [], ◌∷◌, ◌++◌}
use mathlib.Core.List.{Permᴰ}
use Prim.Native.Nat.{ℕ, zero, suc, ◌+◌, ◌<◌}
use native.Mathlib.Omega.{arith}
use native.Mathlib.Decide.{dec_lt}
use lib.ListN.{length, get_or}
use Rattle.tables.specs.Table.{◌∈◌, sum_of}

-- ---- over the indices below n

abbrev pub sum_below : (ℕ → ℕ) → ℕ → ℕ
sum_below f zero = 0
sum_below f (suc n) = sum_below f n + f n

pub below-same : (f g : ℕ → ℕ) (n : ℕ) → ((i : ℕ) → i < n → f i ≡ g i) → sum_below f n ≡ sum_below g n
below-same f g zero h = refl
below-same f g (suc n) h = rw (below-same f g n (λ i l. h i (omega arith)), h n (omega arith))

pub below_none : (f : ℕ → ℕ) (n : ℕ) → ((i : ℕ) → i < n → f i ≡ 0) → sum_below f n ≡ 0
below_none f zero h = refl
below_none f (suc n) h = rw (below_none f n (λ i l. h i (omega arith)), h n (omega arith))

pub below_at : (f : ℕ → ℕ) (n i : ℕ) → sum_below f n ≡ 0 → i < n → f i ≡ 0
below_at f zero i e h = absurd (omega arith)
below_at f (suc n) i e h = go (dec_lt i n) (below_at f n i)
  where
    go : Dec (i < n) → (sum_below f n ≡ 0 → i < n → f i ≡ 0) → f i ≡ 0
    go (yes l) ih = ih (omega arith) l
    go (no l) ih = let q : i ≡ n = omega arith in rw q (omega arith)

pub below_one : (n : ℕ) → sum_below (λ i. 1) n ≡ n
below_one zero = refl
below_one (suc n) = omega (arith, below_one n)

below-first : (f : ℕ → ℕ) (n : ℕ) → sum_below f (suc n) ≡ f 0 + sum_below (λ i. f (suc i)) n
below-first f zero = omega arith
below-first f (suc n) = omega (arith, below-first f n)

-- ---- over a list

module _ {A : Type 0} where
  pub sum_same : (f g : A → ℕ) (l : List A) → ((x : A) → x ∈ l → f x ≡ g x) → sum_of f l ≡ sum_of g l
  sum_same f g [] h = refl
  sum_same f g (x ∷ l) h = rw (h x (here refl), sum_same f g l (λ y k. h y (there k)))

  pub sum_add : (f g : A → ℕ) (l : List A) → sum_of (λ x. f x + g x) l ≡ sum_of f l + sum_of g l
  sum_add f g [] = refl
  sum_add f g (x ∷ l) = omega (arith, sum_add f g l)

  pub sum-none : (l : List A) → sum_of (λ x. 0) l ≡ 0
  sum-none [] = refl
  sum-none (x ∷ l) = omega (arith, sum-none l)

  pub sum_one : (l : List A) → sum_of (λ x. 1) l ≡ length l
  sum_one [] = refl
  sum_one (x ∷ l) = omega (arith, sum_one l)

  pub sum_append : (f : A → ℕ) (l k : List A) → sum_of f (l ++ k) ≡ sum_of f l + sum_of f k
  sum_append f [] k = omega arith
  sum_append f (x ∷ l) k = omega (arith, sum_append f l k)

  -- by index
  pub sum_below_lem : (f : A → ℕ) (d : A) (l : List A) → sum_below (λ i. f (get_or l i d)) (length l) ≡ sum_of f l
  sum_below_lem f d [] = refl
  sum_below_lem f d (x ∷ l) = below-first (λ i. f (get_or (x ∷ l) i d)) (length l) ∙ ap (λ (n : ℕ). f x + n) (sum_below_lem f d l)

  -- in another order
  pub sum_moved : (f : A → ℕ) {l k : List A} → Permᴰ l k → sum_of f l ≡ sum_of f k
  sum_moved f Permᴰ.nil = refl
  sum_moved f (Permᴰ.cons e p) = rw (e, sum_moved f p)
  sum_moved f (Permᴰ.swap {a = a} {b = b} {l = l} e g) = rw (← e, ← g) (omega arith)
  sum_moved f (Permᴰ.trans p q) = sum_moved f p ∙ sum_moved f q
