-- The order of steps: each region comes after what it refers to, and each comes exactly once.
use mathlib.Core.Path.{◌≡◌, sym, ap, ◌∙◌}
use mathlib.Core.Bool.{true, false, not, ◌&&◌, cond}
use mathlib.Core.Logic.{◌⊎◌, inl, inr, ⊎_elim}
use mathlib.Core.List.Memᴰ
use mathlib.Core.List.Memᴰ.{head as here}
use mathlib.Core.List.Memᴰ.{tail as there}
use mathlib.Core.List.{List, [], ◌∷◌}
use Prim.Native.Nat.{ℕ, zero, suc, ◌+◌, ◌<◌, ◌≤◌}
use native.Mathlib.Omega.{arith}
use native.Mathlib.Decide.{dec_lt}
use lib.Dec.{ltb, eqb}
use lib.ListN.{length}
use borrow.Author.Tests.{ltb-true, ltb-false, eqb-true, eqb-false}
use Rattle.plans.specs.Bits.{has_bit, with_bit}
use Rattle.plans.proofs.BitLaws.{has_with_same, has_with_other, no_bit}
use Rattle.plans.proofs.IndexLaws.{first-at, first-before}
use Rattle.text.specs.Bytes.{every}
use Rattle.text.proofs.TestLaws.{true≢false, passed_or_failed, and_left, and_right}
use Rattle.gates.specs.Gate.{Name, Region}
use Rattle.tables.specs.Table.{◌∈◌, nth_region, names, number_of, references, sum_of}
use Rattle.tables.specs.Further.Reaching.{Reaches, refers, refers_on}
use Rattle.tables.specs.Further.Rules.{Distinct}
use Rattle.tables.specs.Steps.{is_written, ready, waiting, next_region, order_from, order}
use Rattle.tables.proofs.ListLaws.{not-not, not-true, and_fails, every-at, every-fails}
use Rattle.tables.proofs.NameLaws.{region_in_lem, number-name, in_number}
use Rattle.tables.proofs.ReachingLaws.{Next, circle}
use Rattle.tables.proofs.SumLaws.{sum_below, below-same, below_none, below_at, below_one, sum_one}

-- ---- what the regions of a table that keeps the rules have

abbrev pub Refer : List Region → Region → Region → Type 0
Refer rs a b = (b ∈ rs) × (b.name ∈ references a)

pub record Orderly (rs : List Region) : Type 0 where
  pub few : length rs ≤ 64
  pub distinct : Distinct (names rs)
  pub live : (r : Region) → r ∈ rs → (n : Name) → n ∈ references r → n ∈ names rs
  pub loopless : (r : Region) → Reaches (Refer rs) r r → ⊥

-- ---- bits

-- a bit of a set to which r is added
pub with_cases : (w r s : ℕ) → r < 64 → has_bit (with_bit w r) s ≡ true → (s ≡ r) ⊎ (has_bit w s ≡ true)
with_cases w r s h e = ⊎_elim (λ q. inl (eqb-true s r q)) (λ q. inr (sym (has_with_other w r h s (eqb-false s r q)) ∙ e)) (passed_or_failed (eqb s r))

module _ (rs : List Region) where
  -- ---- each step's region is one of the table's, is new, and comes after what it refers to

  abbrev pub Ordered : ℕ → List ℕ → Type 0
  Ordered w [] = Unit {0}
  Ordered w (r ∷ o) =
      (r < length rs) × (has_bit w r ≡ false) × ((n : Name) → n ∈ references (nth_region rs r) → is_written rs w n ≡ true) × Ordered (with_bit w r) o

  pub next-ready : (w : ℕ) → next_region rs w < length rs → ready rs w (next_region rs w) ≡ true
  unfolding next_region waiting
  next-ready w h = not-not _ (first-at (waiting rs w) 0 (length rs) (omega arith))

  none-ready : (w : ℕ) → length rs ≤ next_region rs w → (r : ℕ) → r < length rs → ready rs w r ≡ false
  unfolding next_region waiting
  none-ready w h r l = not-true _ (first-before (waiting rs w) 0 (length rs) r (omega arith) (omega arith))

  pub ordered : (k w : ℕ) → Ordered w (order_from k rs w)
  unfolding order_from ready
  ordered zero w = tt
  ordered (suc k) w = go (passed_or_failed (ltb (next_region rs w) (length rs))) (ordered k (with_bit w (next_region rs w)))
    where
      r : ℕ
      r = next_region rs w

      go : (ltb r (length rs) ≡ true) ⊎ (ltb r (length rs) ≡ false) → Ordered (with_bit w r) (order_from k rs (with_bit w r))
          → Ordered w (cond (ltb r (length rs)) (r ∷ order_from k rs (with_bit w r)) [])
      go (inr e) ih = rw e tt
      go (inl e) ih =
          let h = ltb-true r (length rs) e in
          let g : (not (has_bit w r) && every (is_written rs w) (references (nth_region rs r))) ≡ true = next-ready w h in
          rw e (h, not-true (has_bit w r) (and_left (not (has_bit w r)) _ g), (λ n m. every-at (is_written rs w) m (and_right (not (has_bit w r)) _ g)), ih)

  -- the set after the steps of an order
  abbrev pub after : ℕ → List ℕ → ℕ
  after w [] = w
  after w (r ∷ o) = after (with_bit w r) o

  -- ---- what is left, and a sum over it

  abbrev left : (ℕ → ℕ) → ℕ → ℕ → ℕ
  left f w i = cond (has_bit w i) 0 (f i)

  left_other : (f : ℕ → ℕ) (w r : ℕ) → r < 64 → (i : ℕ) → (i ≡ r → ⊥) → left f w i ≡ left f (with_bit w r) i
  left_other f w r h i ne = rw (has_with_other w r h i ne)

  take_out : (f : ℕ → ℕ) (w r n : ℕ) → r < 64 → r < n → has_bit w r ≡ false → sum_below (left f w) n ≡ f r + sum_below (left f (with_bit w r)) n
  take_out f w r zero h l e = absurd (omega arith)
  take_out f w r (suc n) h l e = go (dec_lt r n) (λ k. take_out f w r n h k e)
    where
      go : Dec (r < n) → (r < n → sum_below (left f w) n ≡ f r + sum_below (left f (with_bit w r)) n)
          → sum_below (left f w) n + left f w n ≡ f r + (sum_below (left f (with_bit w r)) n + left f (with_bit w r) n)
      go (yes k) ih = omega (arith, ih k, left_other f w r h n (λ q. omega arith))
      go (no k) ih =
          let q : n ≡ r = omega arith in
          let a = below-same (left f w) (left f (with_bit w r)) n (λ i u. left_other f w r h i (λ p. omega arith)) in
          let b : left f w n ≡ f r = rw (q, e) in
          let c : left f (with_bit w r) n ≡ 0 = rw (q, has_with_same w r h) in
          omega arith

  abbrev left_list : ℕ → ℕ → List ℕ
  left_list w zero = []
  left_list w (suc n) = cond (has_bit w n) (left_list w n) (n ∷ left_list w n)

  in_left : (w n i : ℕ) → i < n → has_bit w i ≡ false → i ∈ left_list w n
  in_left w zero i h e = absurd (omega arith)
  in_left w (suc n) i h e = go (dec_lt i n) (passed_or_failed (has_bit w n)) (λ l. in_left w n i l e)
    where
      go : Dec (i < n) → (has_bit w n ≡ true) ⊎ (has_bit w n ≡ false) → (i < n → i ∈ left_list w n) → i ∈ left_list w (suc n)
      go (yes l) (inl b) ih = rw b (ih l)
      go (yes l) (inr b) ih = rw b (there (ih l))
      go (no l) b ih =
          let q : i ≡ n = omega arith in
          let f : has_bit w n ≡ false = rw q at e in
          rw f (here q)

  left_in : (w n i : ℕ) → i ∈ left_list w n → (i < n) × (has_bit w i ≡ false)
  left_in w zero i m = absurd (Memᴰ.not-nil m)
  left_in w (suc n) i m = go (passed_or_failed (has_bit w n)) (left_in w n i)
    where
      found : has_bit w n ≡ false → (i ≡ n) ⊎ (i ∈ left_list w n) → (i ∈ left_list w n → (i < n) × (has_bit w i ≡ false)) → (i < suc n) × (has_bit w i ≡ false)
      found b (inl q) ih = (omega arith, rw q b)
      found b (inr k) ih =
          let r = ih k in
          let l : i < n = r.0 in
          (omega arith, r.1)

      go : (has_bit w n ≡ true) ⊎ (has_bit w n ≡ false) → (i ∈ left_list w n → (i < n) × (has_bit w i ≡ false)) → (i < suc n) × (has_bit w i ≡ false)
      go (inl b) ih =
          let r = ih (rw b at m) in
          let l : i < n = r.0 in
          (omega arith, r.1)
      go (inr b) ih = found b (Memᴰ.cases_cons (rw b at m)) ih

  module _ (ok : Orderly rs) where
    -- ---- where none is ready, none is left: one that is left would have a reference that is left, and so on around a circle

    abbrev ReferAt : ℕ → ℕ → Type 0
    ReferAt a b = (b < length rs) × ((nth_region rs b).name ∈ references (nth_region rs a))

    of-numbers : {a b : ℕ} → Reaches ReferAt a b → Reaches (Refer rs) (nth_region rs a) (nth_region rs b)
    of-numbers (refers {b = b} e) = refers (region_in_lem rs b e.0, e.1)
    of-numbers (refers_on {b = b} e p) = refers_on (region_in_lem rs b e.0, e.1) (of-numbers p)

    blocked : (w : ℕ) → length rs ≤ next_region rs w → (a : ℕ) → a ∈ left_list w (length rs) → Next ReferAt (left_list w (length rs)) a
    unfolding ready is_written
    blocked w h a m = go (and_fails (not (has_bit w a)) (every (is_written rs w) (references (nth_region rs a))) (none-ready w h a k.0))
      where
        k : (a < length rs) × (has_bit w a ≡ false)
        k = left_in w (length rs) a m

        go : (not (has_bit w a) ≡ false) ⊎ (every (is_written rs w) (references (nth_region rs a)) ≡ false) → Next ReferAt (left_list w (length rs)) a
        go (inl e) = absurd (true≢false (sym (not-not (has_bit w a) e) ∙ k.1))
        go (inr e) =
            let f = every-fails (is_written rs w) (references (nth_region rs a)) e in
            let n : Name = f.0 in
            let l = in_number rs n (ok.live (nth_region rs a) (region_in_lem rs a k.0) n f.1) in
            (number_of rs n, in_left w (length rs) (number_of rs n) l f.2, (l, Memᴰ.cast (sym (number-name rs n l)) f.1))

    pub none_left : (w : ℕ) → length rs ≤ next_region rs w → (i : ℕ) → i < length rs → has_bit w i ≡ true
    none_left w h i l = go (passed_or_failed (has_bit w i))
      where
        go : (has_bit w i ≡ true) ⊎ (has_bit w i ≡ false) → has_bit w i ≡ true
        go (inl e) = e
        go (inr e) =
            let c = circle (left_list w (length rs)) ReferAt (blocked w h) i (in_left w (length rs) i l e) in
            absurd (ok.loopless (nth_region rs c.0) (of-numbers c.1))

    -- ---- as many steps as are left write all that is left

    abbrev Enough : ℕ → ℕ → Type 0
    Enough k w = sum_below (left (λ i. 1) w) (length rs) ≤ k

    no_more : (w : ℕ) → Enough 0 w → (i : ℕ) → i < length rs → has_bit w i ≡ true
    no_more w h i l = go (passed_or_failed (has_bit w i))
      where
        go : (has_bit w i ≡ true) ⊎ (has_bit w i ≡ false) → has_bit w i ≡ true
        go (inl e) = e
        go (inr e) =
            let z : left (λ j. 1) w i ≡ 0 = below_at (left (λ j. 1) w) (length rs) i (omega arith) l in
            let o : left (λ j. 1) w i ≡ 1 = rw e in
            absurd (omega arith)

    next-enough : (k w : ℕ) → Enough (suc k) w → next_region rs w < length rs
        → (has_bit w (next_region rs w) ≡ false) × Enough k (with_bit w (next_region rs w))
    unfolding ready
    next-enough k w h l =
        let r = next_region rs w in
        let e : has_bit w r ≡ false = not-true (has_bit w r) (and_left (not (has_bit w r)) _ (next-ready w l)) in
        let few = ok.few in
        let s = take_out (λ i. 1) w r (length rs) (omega arith) l e in
        (e, omega arith)

    complete : (k w : ℕ) → Enough k w → (i : ℕ) → i < length rs → has_bit (after w (order_from k rs w)) i ≡ true
    unfolding order_from
    complete zero w h i l = no_more w h i l
    complete (suc k) w h i l = go (passed_or_failed (ltb (next_region rs w) (length rs))) (λ g. complete k (with_bit w (next_region rs w)) g i l)
      where
        r : ℕ
        r = next_region rs w

        go : (ltb r (length rs) ≡ true) ⊎ (ltb r (length rs) ≡ false)
            → (Enough k (with_bit w r) → has_bit (after (with_bit w r) (order_from k rs (with_bit w r))) i ≡ true)
            → has_bit (after w (cond (ltb r (length rs)) (r ∷ order_from k rs (with_bit w r)) [])) i ≡ true
        go (inl e) ih = rw e (ih (next-enough k w h (ltb-true r (length rs) e)).1)
        go (inr e) ih = rw e (none_left w (ltb-false r (length rs) e) i l)

    total : (f : ℕ → ℕ) (k w : ℕ) → Enough k w → sum_of f (order_from k rs w) ≡ sum_below (left f w) (length rs)
    unfolding order_from
    total f zero w h = sym (below_none (left f w) (length rs) (λ i l. rw (no_more w h i l)))
    total f (suc k) w h = go (passed_or_failed (ltb (next_region rs w) (length rs))) (total f k (with_bit w (next_region rs w)))
      where
        r : ℕ
        r = next_region rs w

        go : (ltb r (length rs) ≡ true) ⊎ (ltb r (length rs) ≡ false)
            → (Enough k (with_bit w r) → sum_of f (order_from k rs (with_bit w r)) ≡ sum_below (left f (with_bit w r)) (length rs))
            → sum_of f (cond (ltb r (length rs)) (r ∷ order_from k rs (with_bit w r)) []) ≡ sum_below (left f w) (length rs)
        go (inl e) ih =
            let l = ltb-true r (length rs) e in
            let n = next-enough k w h l in
            let few = ok.few in
            rw e (ap (λ (x : ℕ). f r + x) (ih n.1) ∙ sym (take_out f w r (length rs) (omega arith) l n.0))
        go (inr e) ih = rw e (sym (below_none (left f w) (length rs) (λ i l. rw (none_left w (ltb-false r (length rs) e) i l))))

    left-all : (f : ℕ → ℕ) → sum_below (left f 0) (length rs) ≡ sum_below f (length rs)
    left-all f = below-same (left f 0) f (length rs) (λ i l. rw (no_bit i))

    enough : Enough (length rs) 0
    enough = omega (arith, left-all (λ i. 1), below_one (length rs))

    pub all_written : (i : ℕ) → i < length rs → has_bit (after 0 (order rs)) i ≡ true
    unfolding order
    all_written i l = complete (length rs) 0 enough i l

    pub order-sum : (f : ℕ → ℕ) → sum_of f (order rs) ≡ sum_below f (length rs)
    unfolding order
    order-sum f = total f (length rs) 0 enough ∙ left-all f

    pub order-length : length (order rs) ≡ length rs
    order-length = sym (sum_one (order rs)) ∙ order-sum (λ i. 1) ∙ below_one (length rs)

    pub order-ordered : Ordered 0 (order rs)
    unfolding order
    order-ordered = ordered (length rs) 0

    -- ---- what passes from a region's references to the region holds of every region

    module _ (Q : ℕ → ℕ → Type 0) (keep : (k r : ℕ) → Q k r → Q (suc k) r)
        (step : (k r : ℕ) → r < length rs → ((n : Name) → n ∈ references (nth_region rs r) → Q k (number_of rs n)) → Q (suc k) r) where
      along-steps : (o : List ℕ) (w k : ℕ) → Ordered w o → ((r : ℕ) → r < length rs → has_bit w r ≡ true → Q k r)
          → (r : ℕ) → r < length rs → has_bit (after w o) r ≡ true → Q (length o + k) r
      unfolding is_written
      along-steps [] w k h q r l e = let z : 0 + k ≡ k = omega arith in rw z (q r l e)
      along-steps (x ∷ o) w k h q r l e =
          let few = ok.few in
          let xl : x < length rs = h.0 in
          let z : suc (length o) + k ≡ length o + suc k = omega arith in
          let new : Q (suc k) x = step k x xl (λ n m. q (number_of rs n) (in_number rs n (ok.live (nth_region rs x) (region_in_lem rs x xl) n m)) (h.2 n m)) in
          rw z
          (along-steps o (with_bit w x) (suc k) h.3 (λ s sl b. ⊎_elim (λ p. rw p new) (λ p. keep k s (q s sl p)) (with_cases w x s (omega arith) b)) r l e)

      pub along-order : (r : ℕ) → r < length rs → Q (length rs) r
      along-order r l =
          let z : length (order rs) + 0 ≡ length rs = omega (arith, order-length) in
          rw (← z) (along-steps (order rs) 0 0 order-ordered (λ s sl b. absurd (true≢false (sym b ∙ no_bit s))) r l (all_written r l))
