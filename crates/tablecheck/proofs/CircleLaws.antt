-- A gate reaches itself exactly where its row does.
use mathlib.Core.Path.{◌≡◌, refl, sym, ap, ap₂, ◌∙◌}
use mathlib.Core.Bool.{Bool, not, ◌&&◌, ◌||◌}
use mathlib.Core.List.{List}
use Prim.Native.Nat.{ℕ, zero, suc, ◌+◌, ◌<◌, ◌≤◌}
use native.Mathlib.Omega.{arith}
use lib.ListN.{length, get_or, set}
use lib.Seq.{get_or-set_same, get_or-set_other}
use native.Mathlib.Decide.{dec_lt}
use Rattle.plans.specs.Bits.{has_bit}
use Rattle.plans.specs.Indices.{first_bad}
use Rattle.plans.proofs.IndexLaws.{first-same}
use Rattle.tables.specs.Head.{dimensions}
use Rattle.tables.specs.Reaching.{refers_to, refers_at, reaches_by, reaches_itself}
use Rattle.tables.specs.Refusals.{uncircled}
use Rattle.graph.specs.Inner.Rows.{bit_at}
use Rattle.linenames.proofs.LineLaws.{refers-line}
use Rattle.resolve.specs.Inner.Reading.{fields_at, gates_at}
use Rattle.tablecheck.specs.Inner.Names.{refers_by}
use Rattle.resolve.proofs.ReadLaws.{gates-nth, gates-length}

-- one row more
pub row-set : (P : ℕ → ℕ → Type 0) (rows : List ℕ) (i row : ℕ) → i < length rows → ((a : ℕ) → a < i → P a (get_or rows a 0)) → P i row → (a : ℕ) → a < i + 1
    → P a (get_or (set rows i row) a 0)
row-set P rows i row h f g a l = go (dec_lt a i)
  where
    go : Dec (a < i) → P a (get_or (set rows i row) a 0)
    go (yes u) = rw (get_or-set_other rows i a row 0 (λ e. omega arith)) (f a u)
    go (no u) = let e : a ≡ i = omega arith in rw (e, get_or-set_same rows i row 0 h) g

-- edges that agree below n reach the same below n
reaches_same : (f g : ℕ → ℕ → Bool) (n : ℕ) → ((a b : ℕ) → a < n → b < n → f a b ≡ g a b) → (s : ℕ) → s ≤ n → (a b : ℕ) → a < n → b < n
    → reaches_by f s a b ≡ reaches_by g s a b
unfolding reaches_by
reaches_same f g n e zero l a b h k = e a b h k
reaches_same f g n e (suc s) l a b h k =
    ap₂ ◌||◌ (reaches_same f g n e s (omega arith) a b h k)
    (ap₂ ◌&&◌ (reaches_same f g n e s (omega arith) a s h (omega arith)) (reaches_same f g n e s (omega arith) s b (omega arith) k))

-- row i has not its own bit
abbrev pub unlooped : List ℕ → ℕ → Bool
unlooped rows i = not (has_bit (get_or rows i 0) i)

-- the test of row i
pub looped_as : (rows : List ℕ) (i : ℕ) {row : ℕ} → row ≡ get_or rows i 0 → {b : Bool} → b ≡ has_bit row i → {c : Bool} → b ≡ c → unlooped rows i ≡ not c
looped_as rows i e t f = rw (← e, ← t, f)

module _ (text starts : List ℕ) (n : ℕ) where
  refers-is : (a b : ℕ) → a < n → b < n → refers_by text starts a b ≡ refers_at (gates_at text starts n) a b
  unfolding refers_by refers_at
  refers-is a b h k =
      refers-line (dimensions text) (fields_at text starts a) (fields_at text starts b)
      ∙ sym (ap₂ refers_to (gates-nth text starts n a h) (gates-nth text starts n b k))

  circle-is : (edges rows : List ℕ) → ((a b : ℕ) → a < n → b < n → bit_at edges a b ≡ refers_by text starts a b)
      → ((a b : ℕ) → bit_at rows a b ≡ reaches_by (bit_at edges) n a b)
      → (i : ℕ) → i < n → {row : ℕ} → row ≡ get_or rows i 0 → {b : Bool} → b ≡ has_bit row i → uncircled (gates_at text starts n) i ≡ not b
  unfolding uncircled reaches_itself bit_at
  circle-is edges rows e r i h {row} w {b} t =
      let k : reaches_by (bit_at edges) n i i ≡ reaches_by (refers_at (gates_at text starts n)) n i i =
      reaches_same (bit_at edges) (refers_at (gates_at text starts n)) n (λ x y u v. e x y u v ∙ refers-is x y u v) n (omega arith) i i h h in
      let z : b ≡ reaches_by (bit_at edges) n i i = t ∙ rw w (r i i) in
      rw (gates-length text starts n) (ap not (sym (z ∙ k)))

  -- the first gate that reaches itself is the first row with its own bit
  pub circles_are : (edges rows : List ℕ) → ((a b : ℕ) → a < n → b < n → bit_at edges a b ≡ refers_by text starts a b)
      → ((a b : ℕ) → bit_at rows a b ≡ reaches_by (bit_at edges) n a b)
      → first_bad (unlooped rows) 0 n ≡ first_bad (uncircled (gates_at text starts n)) 0 n
  circles_are edges rows e r = first-same (unlooped rows) (uncircled (gates_at text starts n)) 0 n
      (λ i _ l. sym (circle-is edges rows e r i (omega arith) refl refl))
