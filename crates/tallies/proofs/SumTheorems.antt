-- What adding tallies means to a reader: the tally of events listed in parts is the sum of the parts' tallies.
use Rattle.std.proofs.Common.{◌≡◌, ℕ, ◌*◌, ◌/◌, ◌%◌, Bool, true, false, cond, eqb, ltb, ◌⊎◌, List, [], ◌∷◌, ◌++◌, map, length, ℤ, sym, refl, inl, inr, ⊎_elim, div-add-mod', zero-add, arith}
use mathlib.Core.List.{flat_map, Memᴰ}
use native.Mathlib.Nat.{zero-mod, zero-div}
use Rattle.plans.specs.Refusals.{Verdict, passed, refused}
use Rattle.plans.specs.Form.{width, plan_end, lowest_bad, form_for, check_for, check_of}
use Rattle.plans.proofs.IndexLaws.{how_many_le}
use Rattle.counter.specs.Counting.{taken_at, spoilt_at, member_at, unclaimed_at, in_region, tally_of, no_tally, Counting, count_passed, count_for, count_of}
use Rattle.counter.proofs.SoundLaws.{passing}
use Rattle.counter.proofs.TableLaws.{get_or-table}
use Rattle.counter.proofs.TallyLaws.{counts-long, tally-none}
use Rattle.counter.proofs.CounterTheorems.{counts_all}
use Rattle.tallies.specs.Sums.{together, total}
use Rattle.tallies.specs.Inner.Bounds.{Within}
use Rattle.tallies.proofs.SumLaws.{none-long, together-none-left, within_64, within_none, within_more}
use Rattle.tallies.proofs.JoinLaws.{joined-whole, joined-listed, tally-joined}

-- ---- every plan passes or is refused

passes_or_not : (p : List ℤ) → (check_of p ≡ passed) ⊎ (eqb (check_of p).number 0 ≡ false)
unfolding check_for form_for
passes_or_not p = go (ltb 4096 (length p)) (ltb (lowest_bad p) (length p)) (eqb (plan_end p) (length p))
  where
    answer : Bool → Bool → Bool → Verdict
    answer a b c = cond a (refused 21 0) (cond b (refused 22 (lowest_bad p)) (cond c passed (refused 22 (length p))))

    go : (a b c : Bool) → (answer a b c ≡ passed) ⊎ (eqb (answer a b c).number 0 ≡ false)
    go true b c = inr refl
    go false true c = inr refl
    go false false true = inl refl
    go false false false = inr refl

-- a plan that does not pass counts nothing
not-counted : (p events : List ℤ) → eqb (check_of p).number 0 ≡ false → count_of p events ≡ record { verdict = check_of p; tally = no_tally }
unfolding count_for
not-counted p events e = rw e

-- ---- no events

pub count_none : (p : List ℤ) → (count_of p []).tally ≡ no_tally
count_none p =
    ⊎_elim
    (λ ok. rw (counts_all p [] ok (zero-mod (width p)), zero-div (width p)) (sym (tally-none p [])))
    (λ e. rw (not-counted p [] e))
    (passes_or_not p)

-- ---- two lists of whole events, one after the other

pub count-joined : (p xs ys : List ℤ) → length xs % width p ≡ 0 → length ys % width p ≡ 0
    → count_of p (xs ++ ys) ≡ record { verdict = (count_of p xs).verdict; tally = together (count_of p xs).tally (count_of p ys).tally }
count-joined p xs ys ex ey =
    let n = width p in
    let whole : length xs / n * n ≡ length xs = omega (arith, div-add-mod' (length xs) n) in
    ⊎_elim
    (λ ok. rw (
      counts_all p (xs ++ ys) ok (joined-whole n xs ys ex ey),
      counts_all p xs ok ex,
      counts_all p ys ok ey,
      joined-listed n xs ys ex ey (passing p ok).wide,
      tally-joined p xs ys (length xs / n) (length ys / n) whole,
    ))
    (λ e. rw (not-counted p (xs ++ ys) e, not-counted p xs e, not-counted p ys e, together-none-left no_tally none-long))
    (passes_or_not p)

-- ---- any number of lists

module _ (p : List ℤ) where
  -- each list has whole events
  abbrev AllWhole : List (List ℤ) → Type 0
  AllWhole lists = (vs : List ℤ) → Memᴰ vs lists → length vs % width p ≡ 0

  others-whole : (vs : List ℤ) (lists : List (List ℤ)) → AllWhole (vs ∷ lists) → AllWhole lists
  others-whole vs lists h us m = h us (Memᴰ.tail m)

  all_whole : (lists : List (List ℤ)) → AllWhole lists → length (flat_map (λ vs. vs) lists) % width p ≡ 0
  unfolding flat_map
  all_whole [] h = zero-mod (width p)
  all_whole (vs ∷ lists) h =
      joined-whole (width p) vs (flat_map (λ vs. vs) lists) (h vs (Memᴰ.head refl)) (all_whole lists (others-whole vs lists h))

  pub count-all : (lists : List (List ℤ)) → ((vs : List ℤ) → Memᴰ vs lists → length vs % width p ≡ 0)
      → (count_of p (flat_map (λ vs. vs) lists)).tally ≡ total (map (λ vs. (count_of p vs).tally) lists)
  unfolding flat_map total
  count-all [] h = count_none p
  count-all (vs ∷ lists) h =
      let others = others-whole vs lists h in
      rw (count-joined p vs (flat_map (λ vs. vs) lists) (h vs (Memᴰ.head refl)) (all_whole lists others), count-all lists others)

-- ---- no number of a tally is above the number of listed events

tally-within : (p events : List ℤ) (m : ℕ) → Within m (tally_of p events m)
unfolding tally_of in_region
tally-within p events m =
    within_64 (how_many_le (taken_at (width p) events) m) (how_many_le (spoilt_at (width p) events) m) (how_many_le (unclaimed_at p events) m)
    (counts-long p events m)
    (λ r h. rw (get_or-table (in_region p events m) 0 64 r h, zero-add) (how_many_le (member_at p events r) m))

pub count-within : (p vs : List ℤ) → Within (length vs / width p) (count_of p vs).tally
unfolding count_for count_passed
count-within p vs = go (eqb (check_of p).number 0) (eqb (length vs % width p) 0)
  where
    listed : ℕ
    listed = length vs / width p

    answer : Bool → Bool → Counting
    answer a b =
        cond a
        (cond b (record { verdict = passed; tally = tally_of p vs listed }) (record { verdict = refused 23 (length vs); tally = no_tally }))
        (record { verdict = check_of p; tally = no_tally })

    none : Within listed no_tally
    none = within_more (omega arith) within_none

    go : (a b : Bool) → Within listed (answer a b).tally
    go true true = tally-within p vs listed
    go true false = none
    go false b = none

-- 64 counts, whatever is refused
pub count_long : (p vs : List ℤ) → length (count_of p vs).tally.counts ≡ 64
count_long p vs = (count-within p vs).long
