-- Values that are kept otherwise where they are off the scale: counting what is kept is counting the values.
use mathlib.Core.Path.{◌≡◌, refl, ap, ◌∙◌}
use mathlib.Core.Bool.{Bool, true, false, not, cond}
use mathlib.Core.List.{List, [], ◌∷◌, map}
use Prim.Native.Nat.{ℕ, zero, suc, ◌<◌, ◌*◌, ◌/◌}
use native.Mathlib.Omega.{arith}
use lib.IntN.{ℤ}
use lib.ListN.{length, take, drop, length-map}
use Rattle.plans.specs.Indices.{all, how_many}
use Rattle.plans.specs.Words.{word, on_scale, part}
use Rattle.plans.specs.Bits.{has_bit}
use Rattle.plans.specs.Form.{width}
use Rattle.plans.proofs.IndexLaws.{all-at, how_many-same}
use Rattle.counter.specs.Members.{bits_of}
use Rattle.counter.specs.Judging.{value_good, taken, members, unclaimed}
use Rattle.counter.specs.Counting.{event_at, taken_at, spoilt_at, member_at, unclaimed_at, in_region, tally_of, count_passed, count_for, count_of}
use Rattle.counter.proofs.TableLaws.{table_ext}

-- parts of a list
take-map : (f : ℤ → ℤ) (m : ℕ) (l : List ℤ) → take m (map f l) ≡ map f (take m l)
take-map f zero l = refl
take-map f (suc m) [] = refl
take-map f (suc m) (x ∷ l) = ap (λ (k : List ℤ). f x ∷ k) (take-map f m l)

drop-map : (f : ℤ → ℤ) (m : ℕ) (l : List ℤ) → drop m (map f l) ≡ map f (drop m l)
drop-map f zero l = refl
drop-map f (suc m) [] = refl
drop-map f (suc m) (x ∷ l) = drop-map f m l

-- `keep` says what is kept of a value: what is off the scale stays off it, and a value on the scale is kept as it is
module _ (keep : ℤ → ℤ) (alike : (v : ℤ) → on_scale (keep v) ≡ on_scale v) (itself : (v : ℤ) → on_scale v ≡ true → keep v ≡ v) where
  good-alike : (e : List ℤ) (i : ℕ) → i < length e → value_good (map keep e) i ≡ value_good e i
  unfolding value_good word
  good-alike [] i h = absurd (omega arith)
  good-alike (v ∷ e) zero h = alike v
  good-alike (v ∷ e) (suc i) h = good-alike e i (omega arith)

  pub taken-kept : (e : List ℤ) → taken (map keep e) ≡ taken e
  unfolding taken all
  taken-kept e = rw (length-map e keep) (go (length e) (λ i h. good-alike e i h))
    where
      go : (n : ℕ) → ((i : ℕ) → i < n → value_good (map keep e) i ≡ value_good e i) → all (value_good (map keep e)) n ≡ all (value_good e) n
      go zero h = refl
      go (suc n) h = rw (h n (omega arith), go n (λ i l. h i (omega arith)))

  kept-itself : (e : List ℤ) → ((i : ℕ) → i < length e → value_good e i ≡ true) → map keep e ≡ e
  unfolding value_good word
  kept-itself [] h = refl
  kept-itself (v ∷ e) h = rw (itself v (h 0 (omega arith)), kept-itself e (λ i l. h (suc i) (omega arith)))

  -- an event that is taken is kept as it is
  pub taken-itself : (e : List ℤ) → taken e ≡ true → map keep e ≡ e
  unfolding taken
  taken-itself e t = kept-itself e (λ i h. all-at (value_good e) (length e) t i h)

  members_kept : (p e : List ℤ) → members p (map keep e) ≡ members p e
  unfolding members
  members_kept p e = rw (taken-kept e) (go (taken e) refl)
    where
      go : (b : Bool) → taken e ≡ b → cond b (bits_of p (map keep e)) 0 ≡ cond b (bits_of p e) 0
      go true t = ap (bits_of p) (taken-itself e t)
      go false t = refl

  event-kept : (n : ℕ) (events : List ℤ) (j : ℕ) → event_at n (map keep events) j ≡ map keep (event_at n events j)
  unfolding event_at part
  event-kept n events j = rw (drop-map keep (j * n) events) (take-map keep n (drop (j * n) events))

  module _ (p events : List ℤ) (m : ℕ) where
    taken_at_lem : (j : ℕ) → taken_at (width p) (map keep events) j ≡ taken_at (width p) events j
    unfolding taken_at
    taken_at_lem j = ap taken (event-kept (width p) events j) ∙ taken-kept (event_at (width p) events j)

    taken-same : how_many (taken_at (width p) (map keep events)) m ≡ how_many (taken_at (width p) events) m
    taken-same = how_many-same _ _ m (λ j h. taken_at_lem j)

    spoilt-same : how_many (spoilt_at (width p) (map keep events)) m ≡ how_many (spoilt_at (width p) events) m
    unfolding spoilt_at
    spoilt-same = how_many-same _ _ m (λ j h. ap not (taken_at_lem j))

    members-at : (j : ℕ) → members p (event_at (width p) (map keep events) j) ≡ members p (event_at (width p) events j)
    members-at j = ap (members p) (event-kept (width p) events j) ∙ members_kept p (event_at (width p) events j)

    region-same : (r : ℕ) → in_region p (map keep events) m r ≡ in_region p events m r
    unfolding in_region member_at
    region-same r = how_many-same _ _ m (λ j h. ap (λ (b : ℕ). has_bit b r) (members-at j))

    unclaimed_same : how_many (unclaimed_at p (map keep events)) m ≡ how_many (unclaimed_at p events) m
    unfolding unclaimed_at unclaimed taken_at
    unclaimed_same = how_many-same _ _ m (λ j h. rw (taken_at_lem j, members-at j))

    tally-kept : tally_of p (map keep events) m ≡ tally_of p events m
    unfolding tally_of
    tally-kept =
        rw (taken-same, spoilt-same, table_ext (in_region p (map keep events) m) (in_region p events m) 0 64 (λ r h. region-same r), unclaimed_same)

  -- counting what is kept is counting the values
  pub count_kept : (p events : List ℤ) → count_of p (map keep events) ≡ count_of p events
  unfolding count_for count_passed
  count_kept p events = rw (length-map events keep, tally-kept p events (length events / width p))
