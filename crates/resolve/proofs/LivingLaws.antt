-- A gate's references name regions exactly where its line's do.
use mathlib.Core.Path.{◌≡◌, sym, ap, ◌∙◌}
use mathlib.Core.Bool.{Bool, true, false, ◌&&◌}
use mathlib.Core.List.{List}
use Prim.Native.Nat.{ℕ, ◌<◌, ◌≤◌}
use lib.Dec.{ltb, leb}
use lib.ListN.{length}
use borrow.Author.Tests.{leb-true, leb-false, lt-ltb, le-ltb}
use Rattle.text.specs.Bytes.{every}
use Rattle.text.specs.Lines.{fields}
use Rattle.text.proofs.TestLaws.{true≢false, and_left, and_right}
use Rattle.gates.specs.Gate.{Name, regions}
use Rattle.tables.specs.Table.{nth_gate, gate_references, number_of}
use Rattle.tables.specs.Head.{dimensions}
use Rattle.tables.specs.Refusals.{is_region, living}
use Rattle.tables.proofs.ListLaws.{every-at, every_of, unless}
use Rattle.linenames.specs.Inner.LineNames.{reference_end, has_reference, reference_at}
use Rattle.linenames.proofs.LineLaws.{reference_in, in_reference}
use Rattle.resolve.specs.Inner.Reading.{line_at, fields_at, gates_at}
use Rattle.resolve.proofs.ReadLaws.{gate_at, gates-nth}

module _ (text starts : List ℕ) (n i : ℕ) (h : i < n) where
  references-read : gate_references (nth_gate (gates_at text starts n) i) ≡ gate_references (gate_at text starts i)
  references-read = ap gate_references (gates-nth text starts n i h)

  pub living-here : living (gates_at text starts n) i ≡ true → (k : ℕ) → 2 ≤ k → k < reference_end (fields_at text starts i)
      → has_reference (fields_at text starts i) k ≡ true
      → is_region (gates_at text starts n) (reference_at (fields_at text starts i) k) ≡ true
  unfolding living
  living-here t k l u a =
      every-at (is_region (gates_at text starts n)) (reference_in (dimensions text) (fields_at text starts i) k l u a)
      (sym (ap (every (is_region (gates_at text starts n))) references-read) ∙ t)

  pub dead_here : (k : ℕ) → 2 ≤ k → k < reference_end (fields_at text starts i) → has_reference (fields_at text starts i) k ≡ true
      → is_region (gates_at text starts n) (reference_at (fields_at text starts i) k) ≡ false → living (gates_at text starts n) i ≡ false
  dead_here k l u a e = unless (living (gates_at text starts n) i) (λ t. true≢false (sym (living-here t k l u a) ∙ e))

  pub living-all : ((k : ℕ) → 2 ≤ k → k < reference_end (fields_at text starts i) → has_reference (fields_at text starts i) k ≡ true
      → is_region (gates_at text starts n) (reference_at (fields_at text starts i) k) ≡ true) → living (gates_at text starts n) i ≡ true
  unfolding living
  living-all f =
      ap (every (is_region (gates_at text starts n))) references-read
      ∙ every_of (is_region (gates_at text starts n)) (gate_references (gate_at text starts i)) (λ x m.
      let w = in_reference (dimensions text) (fields_at text starts i) m in
      sym (ap (is_region (gates_at text starts n)) w.4) ∙ f w.0 w.1 w.2 w.3)

-- the test of field k
module _ (text starts : List ℕ) (n i k : ℕ) {line : List ℕ} (l : line ≡ line_at text starts i) {b : Bool} (a : b ≡ has_reference (fields line) k) {y : Name}
    (e : y ≡ reference_at (fields line) k)
    {total number : ℕ} (t : total ≡ length (regions (gates_at text starts n))) (m : number ≡ number_of (regions (gates_at text starts n)) y) where
  has_read : b ≡ has_reference (fields_at text starts i) k
  unfolding fields_at
  has_read = rw (← l) a

  name-read : y ≡ reference_at (fields_at text starts i) k
  unfolding fields_at
  name-read = rw (← l) e

  region-read : is_region (gates_at text starts n) (reference_at (fields_at text starts i) k) ≡ ltb number total
  unfolding is_region
  region-read = rw (← name-read, ← m, ← t)

  pub dead_has : (b && leb total number) ≡ true → has_reference (fields_at text starts i) k ≡ true
  dead_has o = sym has_read ∙ and_left b (leb total number) o

  pub dead_region : (b && leb total number) ≡ true → is_region (gates_at text starts n) (reference_at (fields_at text starts i) k) ≡ false
  dead_region o = region-read ∙ le-ltb number total (leb-true total number (and_right b (leb total number) o))

  pub live-region : (b && leb total number) ≡ false → has_reference (fields_at text starts i) k ≡ true
      → is_region (gates_at text starts n) (reference_at (fields_at text starts i) k) ≡ true
  live-region o u = region-read ∙ lt-ltb number total (leb-false total number (second b (leb total number) (has_read ∙ u) o))
    where
      second : (x y : Bool) → x ≡ true → (x && y) ≡ false → y ≡ false
      second x y p q = rw p at q

pub end_read : (text starts : List ℕ) (i : ℕ) {line : List ℕ} → line ≡ line_at text starts i → {end : ℕ} → end ≡ reference_end (fields line)
    → end ≡ reference_end (fields_at text starts i)
unfolding fields_at
end_read text starts i l e = rw (← l) e
