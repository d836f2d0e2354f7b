-- Laws of specs/Inner/Columns: the numbers of each list stand one list behind the other.
use mathlib.Core.Path.{◌≡◌, refl, sym, ◌∙◌, ap}
use mathlib.Core.List.{List, [], ◌∷◌, ◌++◌, map, flat_map, append_assoc}
use Prim.Native.Nat.{ℕ, zero, suc, ◌+◌, ◌*◌, ◌<◌, ◌≤◌}
use native.Mathlib.Nat.{zero-add}
use native.Mathlib.Omega.{arith}
use lib.ListN.{length, get_or, set, take, length-append, length-map, get_or-append}
use lib.IntN.{ℤ}
use lib.Seq.{take_all, ext_get_or, get_or_at, get_or-append-add}
use Rattle.text.specs.Bounded.{tab}
use Rattle.text.specs.Output.{over}
use Rattle.text.proofs.BoundedLaws.{length-tab, get_or-tab}
use Rattle.text.proofs.OutputLaws.{over-more-at, over-take, get_d_over}
use Rattle.counter.specs.declared.Tally.{Tally}
use Rattle.counter.specs.Counting.{count_of}
use Rattle.tallies.proofs.SumTheorems.{count_long}
use Rattle.events.specs.Listing.{line_values}
use Rattle.sheet.specs.Inner.Columns.{numbers_of, column_of}
use Rattle.sheet.specs.Inner.Counts.{tallies_of}

-- ---- the numbers of a tally written

-- the first r counts are written over the beginning
abbrev pub CountsTo : Tally → List ℕ → ℕ → List ℕ → Type 0
CountsTo t d r x = x ≡ over (take r t.counts) d

module _ (t : Tally) (d : List ℕ) (long : length t.counts ≡ 64) where
  pub counts-none : CountsTo t d 0 d
  unfolding over
  counts-none = refl

  pub counts-more : (r : ℕ) → r < 64 → {x : List ℕ} → CountsTo t d r x → {y : List ℕ} {v : ℕ} → v ≡ get_or t.counts r 0 → y ≡ set x r v
      → CountsTo t d (r + 1) y
  counts-more r l w e f = f ∙ rw (w, e) (over-take t.counts d r 0 (omega (arith, long)))

  -- then the taken, the spoilt, the unclaimed
  pub numbers-written : {x : List ℕ} → CountsTo t d 64 x → {y z a : List ℕ} {u v n : ℕ} → u ≡ t.taken → y ≡ set x 64 u
      → v ≡ t.spoilt → z ≡ set y 65 v → n ≡ t.unclaimed → a ≡ set z 66 n
      → (67 ≡ length (numbers_of t)) × (a ≡ over (numbers_of t) d)
  unfolding numbers_of
  numbers-written w {y} {z} e f g h i j =
      let a : y ≡ over (t.counts ++ (t.taken ∷ [])) d =
      f ∙ rw (w, e, take_all 64 t.counts (omega (arith, long))) (over-more-at t.counts d 64 t.taken long) in
      let b : (t.counts ++ (t.taken ∷ [])) ++ (t.spoilt ∷ []) ≡ t.counts ++ (t.taken ∷ t.spoilt ∷ []) = simp append_assoc in
      let c = over-more-at (t.counts ++ (t.taken ∷ [])) d 65 t.spoilt (simp length-append (omega (arith, long))) in
      let s : z ≡ over (t.counts ++ (t.taken ∷ t.spoilt ∷ [])) d = h ∙ rw (a, g) (c ∙ rw b) in
      let k : (t.counts ++ (t.taken ∷ t.spoilt ∷ [])) ++ (t.unclaimed ∷ []) ≡ t.counts ++ (t.taken ∷ t.spoilt ∷ t.unclaimed ∷ []) = simp append_assoc in
      let m = over-more-at (t.counts ++ (t.taken ∷ t.spoilt ∷ [])) d 66 t.unclaimed (simp length-append (omega (arith, long))) in
      (simp length-append (omega (arith, long)), j ∙ rw (s, i) (m ∙ rw k))

-- ---- how many numbers

pub numbers-long : (t : Tally) → length t.counts ≡ 64 → length (numbers_of t) ≡ 67
unfolding numbers_of
numbers-long t h = simp length-append (omega (arith, h))

pub numbers-length : (p : List ℤ) (lists : List (List (List ℕ))) → length (flat_map numbers_of (tallies_of p lists)) ≡ length lists * 67
unfolding tallies_of flat_map
numbers-length p [] = refl
numbers-length p (ls ∷ lists) =
    simp length-append
    (omega (arith, numbers-long (count_of p (flat_map line_values ls)).tally (count_long p (flat_map line_values ls)), numbers-length p lists))

tallies-count : (p : List ℤ) (number : Tally → ℕ) (lists : List (List (List ℕ))) → length (map number (tallies_of p lists)) ≡ length lists
unfolding tallies_of
tallies-count p number lists = length-map (tallies_of p lists) number ∙ length-map lists _

-- ---- the numbers of each list read

module _ (p : List ℤ) (r : ℕ) (within : r < 67) (number : Tally → ℕ) (is : (t : Tally) → length t.counts ≡ 64 → get_or (numbers_of t) r 0 ≡ number t) where
  cell : (lists : List (List (List ℕ))) (j : ℕ) → j < length lists
      → get_or (flat_map numbers_of (tallies_of p lists)) (j * 67 + r) 0 ≡ get_or (map number (tallies_of p lists)) j 0
  unfolding tallies_of flat_map
  cell [] j h = absurd (omega arith)
  cell (ls ∷ lists) zero h =
      let t = (count_of p (flat_map line_values ls)).tally in
      let long = count_long p (flat_map line_values ls) in
      rw zero-add (get_or-append (numbers_of t) (flat_map numbers_of (tallies_of p lists)) 0 r (omega (arith, numbers-long t long)) ∙ is t long)
  cell (ls ∷ lists) (suc j) h =
      let t = (count_of p (flat_map line_values ls)).tally in
      let rest = flat_map numbers_of (tallies_of p lists) in
      let i : suc j * 67 + r ≡ length (numbers_of t) + (j * 67 + r) = omega (arith, numbers-long t (count_long p (flat_map line_values ls))) in
      ap (λ (k : ℕ). get_or (numbers_of t ++ rest) k 0) i ∙ get_or-append-add (numbers_of t) rest (j * 67 + r) 0 ∙ cell lists j (omega arith)

  -- the numbers of the lists were written over d, which became x
  pub column-is : (lists : List (List (List ℕ))) (d x : List ℕ) → x ≡ over (flat_map numbers_of (tallies_of p lists)) d → length lists * 67 ≤ length d
      → column_of x (length lists) r ≡ map number (tallies_of p lists)
  unfolding column_of
  column-is lists d x w room =
      ext_get_or 0 (tab (λ j. get_or x (j * 67 + r) 0) (length lists)) (map number (tallies_of p lists))
      (length-tab _ (length lists) ∙ sym (tallies-count p number lists))
      (λ j l. let h : j < length lists = omega (arith, length-tab (λ i. get_or x (i * 67 + r) 0) (length lists)) in
      get_or-tab _ 0 (length lists) j h
      ∙ rw w (get_d_over (flat_map numbers_of (tallies_of p lists)) d (j * 67 + r) 0 (omega (arith, numbers-length p lists)) (omega arith))
      ∙ cell lists j h)

-- number r of a tally: a count, the taken, the spoilt, the unclaimed
pub number-count : (r : ℕ) → r < 64 → (t : Tally) → length t.counts ≡ 64 → get_or (numbers_of t) r 0 ≡ get_or t.counts r 0
unfolding numbers_of
number-count r h t long = get_or-append t.counts (t.taken ∷ t.spoilt ∷ t.unclaimed ∷ []) 0 r (omega arith)

pub number-taken : (t : Tally) → length t.counts ≡ 64 → get_or (numbers_of t) 64 0 ≡ t.taken
unfolding numbers_of
number-taken t long = get_or_at t.counts t.taken (t.spoilt ∷ t.unclaimed ∷ []) 0 64 long

pub number-spoilt : (t : Tally) → length t.counts ≡ 64 → get_or (numbers_of t) 65 0 ≡ t.spoilt
unfolding numbers_of
number-spoilt t long =
    let i : ◌≡◌ {A = ℕ} 65 (length t.counts + 1) = omega (arith, long) in
    ap (λ (k : ℕ). get_or (t.counts ++ (t.taken ∷ t.spoilt ∷ t.unclaimed ∷ [])) k 0) i
    ∙ get_or-append-add t.counts (t.taken ∷ t.spoilt ∷ t.unclaimed ∷ []) 1 0

pub number-unclaimed : (t : Tally) → length t.counts ≡ 64 → get_or (numbers_of t) 66 0 ≡ t.unclaimed
unfolding numbers_of
number-unclaimed t long =
    let i : ◌≡◌ {A = ℕ} 66 (length t.counts + 2) = omega (arith, long) in
    ap (λ (k : ℕ). get_or (t.counts ++ (t.taken ∷ t.spoilt ∷ t.unclaimed ∷ [])) k 0) i
    ∙ get_or-append-add t.counts (t.taken ∷ t.spoilt ∷ t.unclaimed ∷ []) 2 0
