-- The events of two lists, one after the other, and their tallies.
use Rattle.std.proofs.Common.{◌≡◌, ℕ, zero, suc, ◌+◌, ◌*◌, ◌/◌, ◌%◌, ◌<◌, ◌≤◌, Bool, true, false, cond, not, List, ◌++◌, length, get_or, drop, ℤ, ap, ◌∙◌, ap₂, add-zero, add-mul, div-add-mod', zero-add, mul-div_cancel, arith, length-append, length-drop}
use native.Mathlib.Nat.{add-mod, zero-mod}
use lib.Seq.{take-append-le, drop-append-le, drop-append-add}
use Rattle.plans.specs.Indices.{how_many}
use Rattle.plans.specs.Words.{part}
use Rattle.plans.specs.Bits.{has_bit}
use Rattle.plans.specs.Form.{width}
use Rattle.plans.proofs.IndexLaws.{how_many-same}
use Rattle.counter.specs.Judging.{taken, members, unclaimed}
use Rattle.counter.specs.Counting.{event_at, taken_at, spoilt_at, member_at, unclaimed_at, list_from, in_region, tally_of}
use Rattle.counter.proofs.TableLaws.{get_or-table, table_ext}
use Rattle.counter.proofs.TallyLaws.{event-inside}
use Rattle.tallies.specs.Sums.{together}

-- ---- the first m indices, and the k after them

pub how_many-more : (test : ℕ → Bool) (m k : ℕ) → how_many test (m + k) ≡ how_many test m + how_many (λ j. test (m + j)) k
unfolding how_many
how_many-more test m zero = let e : m + zero ≡ m = omega arith in rw (e, add-zero)
how_many-more test m (suc k) = let e : m + suc k ≡ suc (m + k) = omega arith in rw e (go (test (m + k)) (how_many-more test m k))
  where
    go : (b : Bool) → how_many test (m + k) ≡ how_many test m + how_many (λ j. test (m + j)) k
        → cond b (how_many test (m + k) + 1) (how_many test (m + k))
        ≡ how_many test m + cond b (how_many (λ j. test (m + j)) k + 1) (how_many (λ j. test (m + j)) k)
    go true h = omega arith
    go false h = h

-- ---- lists of whole events

module _ (n : ℕ) (xs ys : List ℤ) (ex : length xs % n ≡ 0) (ey : length ys % n ≡ 0) where
  pub joined-whole : length (xs ++ ys) % n ≡ 0
  joined-whole = rw (length-append xs ys, add-mod (length xs) (length ys) n, ex, ey) (zero-mod n)

  pub joined-listed : 1 ≤ n → length (xs ++ ys) / n ≡ length xs / n + length ys / n
  joined-listed h =
      let a = div-add-mod' (length xs) n in
      let b = div-add-mod' (length ys) n in
      let c = add-mul (length xs / n) (length ys / n) n in
      let l : length (xs ++ ys) ≡ (length xs / n + length ys / n) * n = length-append xs ys ∙ omega arith in
      rw l (mul-div_cancel (length xs / n + length ys / n) h)

-- ---- xs has m events of n values, and ys comes after them

module _ (n : ℕ) (xs ys : List ℤ) (m : ℕ) (whole : m * n ≡ length xs) where
  event-first : (j : ℕ) → j < m → event_at n (xs ++ ys) j ≡ event_at n xs j
  unfolding event_at part
  event-first j h =
      let i = event-inside n j m (length xs) h (omega arith) in
      let d = length-drop (j * n) xs in
      rw (drop-append-le (j * n) xs ys (omega arith)) (take-append-le n (drop (j * n) xs) ys (omega arith))

  event-second : (j : ℕ) → event_at n (xs ++ ys) (m + j) ≡ event_at n ys j
  unfolding event_at part
  event-second j = let e : (m + j) * n ≡ length xs + j * n = add-mul m j n ∙ rw whole in rw (e, drop-append-add xs ys (j * n))

  -- the events that pass a test
  pub how_many-joined : (test : List ℤ → Bool) (k : ℕ)
      → how_many (λ j. test (event_at n (xs ++ ys) j)) (m + k) ≡ how_many (λ j. test (event_at n xs j)) m + how_many (λ j. test (event_at n ys j)) k
  how_many-joined test k =
      how_many-more (λ j. test (event_at n (xs ++ ys) j)) m k
      ∙ ap₂ (λ (x y : ℕ). x + y) (how_many-same _ _ m (λ j h. ap test (event-first j h))) (how_many-same _ _ k (λ j h. ap test (event-second j)))

module _ (p xs ys : List ℤ) (m k : ℕ) (whole : m * width p ≡ length xs) where
  region-joined : (r : ℕ) → in_region p (xs ++ ys) (m + k) r ≡ in_region p xs m r + in_region p ys k r
  unfolding in_region member_at
  region-joined r = how_many-joined (width p) xs ys m whole (λ e. has_bit (members p e) r) k

  counts-joined : list_from (in_region p (xs ++ ys) (m + k)) 0 64
      ≡ list_from (λ r. get_or (list_from (in_region p xs m) 0 64) r 0 + get_or (list_from (in_region p ys k) 0 64) r 0) 0 64
  counts-joined =
      table_ext (in_region p (xs ++ ys) (m + k)) _ 0 64
      (λ r h. region-joined r ∙ rw (get_or-table (in_region p xs m) 0 64 r (omega arith), get_or-table (in_region p ys k) 0 64 r (omega arith), zero-add))

  pub tally-joined : tally_of p (xs ++ ys) (m + k) ≡ together (tally_of p xs m) (tally_of p ys k)
  unfolding tally_of together taken_at spoilt_at unclaimed_at
  tally-joined =
      rw (
        how_many-joined (width p) xs ys m whole taken k,
        how_many-joined (width p) xs ys m whole (λ e. not (taken e)) k,
        counts-joined,
        how_many-joined (width p) xs ys m whole (unclaimed p) k,
      )
