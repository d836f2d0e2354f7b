-- What loops over gates and regions ask for: the first line that is refused, rows of what gates reach, the next step.
use mathlib.Core.Path.{◌≡◌, refl}
use mathlib.Core.Bool.{Bool, true, false, ◌&&◌, ◌||◌, cond}
use mathlib.Core.List.{List, [], ◌∷◌}
use Prim.Native.Nat.{ℕ, suc, ◌+◌, ◌<◌, ◌≤◌}
use native.Mathlib.Omega.{arith}
use lib.Bits.{bit_or}
use lib.ListN.{length}
use borrow.Author.Tests.{lt-ltb, le-ltb}
use Rattle.plans.specs.Indices.{first_bad}
use Rattle.plans.specs.Bits.{has_bit, with_bit}
use Rattle.plans.specs.Refusals.{Verdict, refused}
use Rattle.plans.proofs.IndexLaws.{first-is}
use Rattle.plans.proofs.BitLaws.{has_or}
use Rattle.gates.specs.Gate.{Region}
use Rattle.tables.specs.Reaching.{reaches_by}
use Rattle.tables.specs.Refusals.{unless_line}
use Rattle.tables.specs.Steps.{next_region, order_from}

-- ---- gate i is the first that fails: the refusal stands at its line

pub unless-refused : (number : ℕ → ℕ) (good : ℕ → Bool) (k : ℕ) (v : Verdict) (i : ℕ) → i < k → ((j : ℕ) → j < i → good j ≡ true) → good i ≡ false
    → unless_line number good k v ≡ refused (number i) (i + 2)
unfolding unless_line
unless-refused number good k v i h before e =
    let z : first_bad good 0 k ≡ i = first-is good 0 k i (omega arith) (omega arith) (λ j _ l. before j l) e in
    rw (z, lt-ltb i k h)

-- ---- rows: bit b of row a says that a reaches b

module _ (edge : ℕ → ℕ → Bool) (s : ℕ) where
  -- row s stays as it is in its own round
  pub row_still : (b : ℕ) → reaches_by edge (suc s) s b ≡ reaches_by edge s s b
  unfolding reaches_by
  row_still b = go (reaches_by edge s s b) (reaches_by edge s s s)
    where
      go : (x y : Bool) → (x || (y && x)) ≡ x
      go true y = refl
      go false true = refl
      go false false = refl

  -- round s, for row a
  pub row_next : (a : ℕ) (row own : ℕ) → ((b : ℕ) → has_bit row b ≡ reaches_by edge s a b) → ((b : ℕ) → has_bit own b ≡ reaches_by edge s s b)
      → (b : ℕ) → has_bit (cond (has_bit row s) (bit_or row own) row) b ≡ reaches_by edge (suc s) a b
  unfolding reaches_by
  row_next a row own f g b = go (reaches_by edge s a s) (f s)
    where
      or_none : (x : Bool) → x ≡ (x || false)
      or_none true = refl
      or_none false = refl

      go : (v : Bool) → has_bit row s ≡ v → has_bit (cond (has_bit row s) (bit_or row own) row) b ≡ (reaches_by edge s a b || (v && reaches_by edge s s b))
      go true e = rw (e, has_or row own b, f b, g b)
      go false e = rw (e, f b) (or_none (reaches_by edge s a b))

-- ---- the next step, and the end

module _ (rs : List Region) (k written : ℕ) where
  pub order-next : next_region rs written < length rs
      → order_from (suc k) rs written ≡ next_region rs written ∷ order_from k rs (with_bit written (next_region rs written))
  unfolding order_from
  order-next h = rw (lt-ltb (next_region rs written) (length rs) h)

  pub order_end : length rs ≤ next_region rs written → order_from (suc k) rs written ≡ []
  unfolding order_from
  order_end h = rw (le-ltb (next_region rs written) (length rs) h)
