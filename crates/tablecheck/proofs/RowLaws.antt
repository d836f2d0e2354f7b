-- The rows of what gates refer to.
use mathlib.Core.Path.{◌≡◌, ◌∙◌}
use mathlib.Core.Bool.{Bool, true, false, cond, ◌&&◌}
use mathlib.Core.List.{List}
use Prim.Native.Nat.{ℕ, ◌+◌, ◌<◌, ◌≤◌}
use native.Mathlib.Omega.{arith}
use native.Mathlib.Decide.{dec_lt}
use lib.Dec.{ltb}
use borrow.Author.Tests.{lt-ltb, le-ltb}
use Rattle.plans.specs.Bits.{has_bit, with_bit}
use Rattle.plans.proofs.BitLaws.{has_with_same, has_with_other, no_bit}
use Rattle.text.specs.Lines.{fields}
use Rattle.linenames.specs.Inner.LineNames.{refers_line}
use Rattle.resolve.specs.Inner.Reading.{line_at, fields_at}
use Rattle.tablecheck.specs.Inner.Names.{refers_by}

-- the first k bits of a row are a test's
abbrev pub Row : (ℕ → Bool) → ℕ → ℕ → Type 0
Row test k row = (b : ℕ) → b < 64 → has_bit row b ≡ (ltb b k && test b)

module _ (test : ℕ → Bool) where
  pub row-none : Row test 0 0
  row-none b h = rw (no_bit b, le-ltb b 0 (omega arith))

  set_past : (row j : ℕ) → 64 ≤ j → with_bit row j ≡ row
  unfolding with_bit
  set_past row j h = rw (le-ltb j 64 h)

  pub row_more : (row j : ℕ) → Row test j row → {r : Bool} → r ≡ test j → {new : ℕ} → new ≡ cond r (with_bit row j) row → Row test (j + 1) new
  row_more row j f {r} e {new} s b h = go (dec_lt b j) (dec_lt j b)
    where
      other : (b ≡ j → ⊥) → (v : Bool) → new ≡ cond v (with_bit row j) row → has_bit new b ≡ has_bit row b
      other ne false q = rw q
      other ne true q = at (dec_lt j 64)
        where
          at : Dec (j < 64) → has_bit new b ≡ has_bit row b
          at (yes u) = rw q (has_with_other row j u b ne)
          at (no u) = rw (q, set_past row j (omega arith))

      own : b ≡ j → (v : Bool) → v ≡ test j → new ≡ cond v (with_bit row j) row → has_bit new j ≡ test j
      own z true w q = rw (← w, q) (has_with_same row j (omega arith))
      own z false w q =
          let k : has_bit row j ≡ (ltb j j && test j) = f j (omega arith) in
          rw (← w, q) (k ∙ rw (le-ltb j j (omega arith)))

      go : Dec (b < j) → Dec (j < b) → has_bit new b ≡ (ltb b (j + 1) && test b)
      go (yes u) d = other (λ z. omega arith) r s ∙ f b h ∙ rw (lt-ltb b j u, lt-ltb b (j + 1) (omega arith))
      go (no u) (yes v) = other (λ z. omega arith) r s ∙ f b h ∙ rw (le-ltb b j (omega arith), le-ltb b (j + 1) (omega arith))
      go (no u) (no v) = let z : b ≡ j = omega arith in rw (z, lt-ltb j (j + 1) (omega arith)) (own z r e s)

pub refers-read : (text starts : List ℕ) (i j : ℕ) {line other : List ℕ} → line ≡ line_at text starts i → other ≡ line_at text starts j → {b : Bool}
    → b ≡ refers_line (fields line) (fields other) → b ≡ refers_by text starts i j
unfolding refers_by fields_at
refers-read text starts i j l o e = rw (← l, ← o) e
