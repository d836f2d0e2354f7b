-- Rounds over rows are the rounds of `reaches_by`; the next row is the next region.
use mathlib.Core.Path.{◌≡◌, refl, sym, ap, ◌∙◌}
use mathlib.Core.Bool.{Bool, true, false, not, cond, ◌&&◌, ◌||◌}
use mathlib.Core.Logic.{◌⊎◌, inl, inr}
use mathlib.Core.List.{List, append-nil}
use Prim.Native.Nat.{ℕ, zero, suc, ◌+◌, ◌/◌, ◌%◌, ◌<◌, ◌≤◌, min, max}
use native.Mathlib.Omega.{arith}
use native.Mathlib.Numerals.{add-one}
use native.Mathlib.Nat.{div-add-mod'}
use native.Mathlib.Decide.{dec_lt}
use lib.Arith.{bin_ind}
use lib.Bits.{bit_or, or_step}
use lib.Dec.{eqb}
use lib.ListN.{length, get_or, set, drop, get_or-eq_default}
use lib.Seq.{drop-cons, drop-length, get_or_at}
use borrow.Author.Tests.{eqb-true, eq-eqb}
use Rattle.plans.specs.Bits.{has_bit}
use Rattle.plans.specs.Indices.{first_bad}
use Rattle.plans.proofs.IndexLaws.{first-same}
use Rattle.plans.proofs.BitLaws.{no_bit, has_low, has_half, has_or}
use Rattle.text.specs.Bytes.{every}
use Rattle.text.specs.Bounded.{tab}
use Rattle.text.specs.Output.{over}
use Rattle.text.proofs.BoundedLaws.{length-tab, get_or-tab, tab-more}
use Rattle.text.proofs.OutputLaws.{over-fits}
use Rattle.text.proofs.TestLaws.{true≢false, passed_or_failed}
use Rattle.gates.specs.Gate.{Name, Region}
use Rattle.tables.specs.Table.{◌∈◌, nth_region, number_of, references}
use Rattle.tables.specs.Reaching.{reaches_by}
use Rattle.tables.specs.Steps.{is_written, ready, waiting, next_region}
use Rattle.tables.proofs.ListLaws.{some_at, some-found, every-at, every_of, unless}
use Rattle.tables.proofs.LoopLaws.{row_next}
use Rattle.graph.specs.Inner.Rows.{bit_at, joined, is_subset, held, Referring}

-- ---- a row at a time

-- the rows from i on are as they were
pub rest_at : (f : ℕ → ℕ) (d : List ℕ) (i : ℕ) → i < length d → get_or (over (tab f i) d) i 0 ≡ get_or d i 0
rest_at f d i h =
    rw (over-fits (tab f i) d (rw (length-tab f i) (omega arith)), length-tab f i, drop-cons d i 0 h)
    (get_or_at (tab f i) (get_or d i 0) (drop (suc i) d) 0 i (length-tab f i))

pub row_put : (d rows : List ℕ) (s i other new : ℕ) → i < length d → rows ≡ over (tab (joined d s) i) d → other ≡ get_or d s 0
    → new ≡ cond (has_bit (get_or rows i 0) s) (bit_or (get_or rows i 0) other) (get_or rows i 0) → set rows i new ≡ over (tab (joined d s) (i + 1)) d
unfolding joined
row_put d rows s i other new h e o n =
    let r : get_or rows i 0 ≡ get_or d i 0 = rw e (rest_at (joined d s) d i h) in
    let f : new ≡ joined d s i = n ∙ rw (r, o) in
    rw (f, e) (tab-more (joined d s) d i)

-- all rows are written
pub all_written : (f : ℕ → ℕ) (d : List ℕ) → over (tab f (length d)) d ≡ tab f (length d)
all_written f d =
    rw (over-fits (tab f (length d)) d (rw (length-tab f (length d)) (omega arith)), length-tab f (length d), drop-length d) (append-nil (tab f (length d)))

-- ---- rounds

-- no row from 64 on has a bit
pub no_row : (rows : List ℕ) (a b : ℕ) → length rows ≤ a → bit_at rows a b ≡ false
unfolding bit_at
no_row rows a b h = rw (get_or-eq_default rows 0 h) (no_bit b)

-- rows at round s: row a has bit b where a reaches b by way of rows below s
abbrev pub Round : List ℕ → ℕ → List ℕ → Type 0
Round edges s rows = (a b : ℕ) → bit_at rows a b ≡ reaches_by (bit_at edges) s a b

pub round-first : (edges : List ℕ) → Round edges 0 edges
unfolding reaches_by
round-first edges a b = refl

-- a number that is no row's reaches nothing
reaches_none : (edges : List ℕ) (s a b : ℕ) → length edges ≤ a → reaches_by (bit_at edges) s a b ≡ false
unfolding reaches_by
reaches_none edges zero a b h = no_row edges a b h
reaches_none edges (suc s) a b h = rw (reaches_none edges s a b h, reaches_none edges s a s h)

pub round-next : (edges rows : List ℕ) (s : ℕ) → length rows ≡ length edges → Round edges s rows → Round edges (s + 1) (tab (joined rows s) (length rows))
unfolding bit_at joined
round-next edges rows s l h a b = rw add-one (go (dec_lt a (length rows)))
  where
    go : Dec (a < length rows) → has_bit (get_or (tab (joined rows s) (length rows)) a 0) b ≡ reaches_by (bit_at edges) (suc s) a b
    go (yes u) = rw (get_or-tab (joined rows s) 0 (length rows) a u) (row_next (bit_at edges) s a (get_or rows a 0) (get_or rows s 0) (h a) (h s) b)
    go (no u) =
        let k : length (tab (joined rows s) (length rows)) ≤ a = rw (length-tab (joined rows s) (length rows)) (omega arith) in
        rw (get_or-eq_default (tab (joined rows s) (length rows)) 0 {n = a} k, no_bit b) (sym (reaches_none edges (suc s) a b (omega arith)))

pub round-length : (rows : List ℕ) (s : ℕ) → length (tab (joined rows s) (length rows)) ≡ length rows
round-length rows s = length-tab (joined rows s) (length rows)

-- a round from the number of rows on changes nothing
round_idle : (edges : List ℕ) (n a b : ℕ) → length edges ≤ n → reaches_by (bit_at edges) (suc n) a b ≡ reaches_by (bit_at edges) n a b
unfolding reaches_by
round_idle edges n a b h = rw (reaches_none edges n n b h) (or_none (reaches_by (bit_at edges) n a b) (reaches_by (bit_at edges) n a n))
  where
    or_none : (x y : Bool) → (x || (y && false)) ≡ x
    or_none true y = refl
    or_none false true = refl
    or_none false false = refl

pub rounds-past : (edges : List ℕ) (k n a b : ℕ) → length edges ≤ k → reaches_by (bit_at edges) (min n k) a b ≡ reaches_by (bit_at edges) n a b
rounds-past edges k zero a b l = let e : min zero k ≡ zero = omega arith in rw e
rounds-past edges k (suc n) a b l = go (dec_lt n k) (rounds-past edges k n a b l)
  where
    go : Dec (n < k) → reaches_by (bit_at edges) (min n k) a b ≡ reaches_by (bit_at edges) n a b
        → reaches_by (bit_at edges) (min (suc n) k) a b ≡ reaches_by (bit_at edges) (suc n) a b
    go (yes h) ih = let e : min (suc n) k ≡ suc n = omega arith in rw e
    go (no h) ih = let e : min (suc n) k ≡ min n k = omega arith in rw (e, ih) (sym (round_idle edges n a b (omega arith)))

-- ---- a row within a set

union_within : (a b : ℕ) → ((k : ℕ) → has_bit a k ≡ true → has_bit b k ≡ true) → bit_or a b ≡ b
union_within =
    bin_ind (λ (a : ℕ). (b : ℕ) → ((k : ℕ) → has_bit a k ≡ true → has_bit b k ≡ true) → bit_or a b ≡ b) (λ b h. refl)
    (λ a ih b h.
    let e : bit_or (a / 2) (b / 2) ≡ b / 2 = ih (b / 2) (λ k t. sym (has_half b k) ∙ h (suc k) (has_half a k ∙ t)) in
    let f : max (a % 2) (b % 2) ≡ b % 2 = low a b (h 0) in
    or_step a b ∙ rw (e, f) (div-add-mod' b 2))
  where
    low : (a b : ℕ) → (has_bit a 0 ≡ true → has_bit b 0 ≡ true) → max (a % 2) (b % 2) ≡ b % 2
    low a b h = go (dec_lt (a % 2) 1)
      where
        go : Dec (a % 2 < 1) → max (a % 2) (b % 2) ≡ b % 2
        go (yes u) = omega arith
        go (no u) =
            let e : b % 2 ≡ 1 = eqb-true (b % 2) 1 (sym (has_low b) ∙ h (has_low a ∙ eq-eqb (a % 2) 1 (omega arith))) in
            omega arith

pub within-at : (a b k : ℕ) → is_subset a b ≡ true → has_bit a k ≡ true → has_bit b k ≡ true
unfolding is_subset
within-at a b k e h = sym (ap (λ (x : ℕ). has_bit x k) (eqb-true (bit_or a b) b e)) ∙ has_or a b k ∙ rw h

pub within_of : (a b : ℕ) → ((k : ℕ) → has_bit a k ≡ true → has_bit b k ≡ true) → is_subset a b ≡ true
unfolding is_subset
within_of a b h = eq-eqb (bit_or a b) b (union_within a b h)

-- ---- the next region

module _ (rs : List Region) (rows : List ℕ) (f : Referring rs rows) (set : ℕ) where
  row_has : (r : ℕ) → r < length rs → (n : Name) → n ∈ references (nth_region rs r) → has_bit (get_or rows r 0) (number_of rs n) ≡ true
  unfolding bit_at
  row_has r h n m = f r (number_of rs n) h ∙ some_at (λ (x : Name). eqb (number_of rs x) (number_of rs n)) m (eq-eqb (number_of rs n) (number_of rs n) refl)

  has_row : (r : ℕ) → r < length rs → (k : ℕ) → has_bit (get_or rows r 0) k ≡ true → (n : Name) × (n ∈ references (nth_region rs r)) × (number_of rs n ≡ k)
  unfolding bit_at
  has_row r h k e =
      let w = some-found (λ (x : Name). eqb (number_of rs x) k) (references (nth_region rs r)) (sym (f r k h) ∙ e) in
      (w.0, w.1, eqb-true (number_of rs w.0) k w.2)

  -- all bits of a row are in the set where all references are written
  written_row : (r : ℕ) → r < length rs → is_subset (get_or rows r 0) set ≡ every (is_written rs set) (references (nth_region rs r))
  unfolding is_written
  written_row r h = go (passed_or_failed (is_subset (get_or rows r 0) set))
    where
      go : (is_subset (get_or rows r 0) set ≡ true) ⊎ (is_subset (get_or rows r 0) set ≡ false)
          → is_subset (get_or rows r 0) set ≡ every (is_written rs set) (references (nth_region rs r))
      go (inl e) = e ∙ sym (every_of (is_written rs set) (references (nth_region rs r))
          (λ n m. within-at (get_or rows r 0) set (number_of rs n) e (row_has r h n m)))
      go (inr e) =
          e ∙ sym (unless (every (is_written rs set) (references (nth_region rs r)))
          (λ t. true≢false
          (sym (within_of (get_or rows r 0) set (λ k b. let w = has_row r h k b in rw (← w.2) (every-at (is_written rs set) w.1 t))) ∙ e)))

  pub next-region : first_bad (held rows set) 0 (length rs) ≡ next_region rs set
  unfolding held next_region waiting ready
  next-region = first-same (held rows set) (waiting rs set) 0 (length rs) (λ j _ l. rw (written_row j (omega arith)))

-- ---- the test of a row

module _ (rows : List ℕ) (set r row : ℕ) (taken fits : Bool) (e : row ≡ get_or rows r 0) (t : taken ≡ has_bit set r) (f : fits ≡ is_subset row set) where
  pub held-not : (not taken && fits) ≡ true → held rows set r ≡ false
  unfolding held
  held-not h = rw (← e, ← f, ← t, h)

  pub held_still : (not taken && fits) ≡ false → held rows set r ≡ true
  unfolding held
  held_still h = rw (← e, ← f, ← t, h)
