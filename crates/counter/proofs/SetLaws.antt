-- Sets of events as bits: intersection, union, complement, a run of events, the first event, no event, one event more.
use mathlib.Core.Path.{◌≡◌, refl, sym, ap, ◌∙◌}
use mathlib.Core.Bool.{Bool, true, false, not, cond, ◌&&◌, ◌||◌, and-false, and_self, and-true, or-true, or-false}
use Prim.Native.Nat.compare
use Prim.Native.Nat.{ℕ, zero, suc, ◌+◌, ◌-◌, ◌*◌, ◌/◌, ◌%◌, ◌^◌, ◌<◌, ◌≤◌, min}
use native.Mathlib.Omega.{arith}
use native.Mathlib.Decide.{dec_lt}
use native.Mathlib.Nat.{div-eq_of_lt, lt_of_lt_of_le, pow-suc}
use lib.Bits.{bit_and, and_shr, and_step}
use lib.Count.{under, count_trailing_zeros}
use lib.Pow.{pow_pos, pow_mono, ones_lt, high_ones}
use lib.Dec.{eqb, leb, ltb}
use borrow.Author.Tests.{ne_eqb, lt-ltb, le-ltb, lt-leb, le-leb}
use Rattle.plans.specs.Indices.{any}
use Rattle.plans.specs.Bits.{has_bit, with_bit}
use Rattle.counter.specs.Inner.Groups.{First}
use Rattle.plans.proofs.IndexLaws.{any_none, any_stop}
use Rattle.plans.proofs.BitLaws.{has_with_same, has_with_other, no_bit, has_low, has_half}

-- ---- single bits

-- of two binary digits the less is 1 where both are, the greater where one is
min-digit : (x y : ℕ) → x < 2 → y < 2 → eqb (min x y) 1 ≡ (eqb x 1 && eqb y 1)
min-digit zero y h k = let m : min zero y ≡ zero = omega arith in rw m
min-digit (suc zero) zero h k = refl
min-digit (suc zero) (suc zero) h k = refl
min-digit (suc zero) (suc (suc y)) h k = absurd (omega arith)
min-digit (suc (suc x)) y h k = absurd (omega arith)

and_odd : (a b : ℕ) → bit_and a b % 2 ≡ min (a % 2) (b % 2)
and_odd a b = rw (and_step a b) (let m = min (a % 2) (b % 2) in omega arith)

pub has_and : (a b e : ℕ) → has_bit (bit_and a b) e ≡ (has_bit a e && has_bit b e)
unfolding has_bit
has_and a b e =
    rw (and_shr a b e, and_odd (a / 2 ^ e) (b / 2 ^ e))
    (min-digit (a / 2 ^ e % 2) (b / 2 ^ e % 2) (let x = a / 2 ^ e in omega arith) (let x = b / 2 ^ e in omega arith))

-- ---- the complement

-- event e + 1 of a set is event e of its half
flip_odd : (x : ℕ) → eqb ((1 - x % 2) % 2) 1 ≡ not (eqb (x % 2) 1)
flip_odd x = go (x % 2) (omega arith)
  where
    go : (d : ℕ) → d < 2 → eqb ((1 - d) % 2) 1 ≡ not (eqb d 1)
    go zero h = refl
    go (suc zero) h = refl
    go (suc (suc d)) h = absurd (omega arith)

low-complement : (k a : ℕ) → a < 2 ^ suc k → has_bit (2 ^ suc k - 1 - a) zero ≡ not (has_bit a zero)
unfolding has_bit
low-complement k a h =
    let p = pow-suc 2 k in
    let q : (2 ^ suc k - 1 - a) / 1 % 2 ≡ (1 - a % 2) % 2 = let x = 2 ^ k in omega arith in
    let r : a / 1 % 2 ≡ a % 2 = omega arith in
    rw (q, r) (flip_odd a)

-- the set of all k events less a set
pub has_complement : (k a e : ℕ) → a < 2 ^ k → e < k → has_bit (2 ^ k - 1 - a) e ≡ not (has_bit a e)
has_complement zero a e h l = absurd (omega arith)
has_complement (suc k) a zero h l = low-complement k a h
has_complement (suc k) a (suc e) h l =
    let p = pow-suc 2 k in
    let q : (2 ^ suc k - 1 - a) / 2 ≡ 2 ^ k - 1 - a / 2 = let x = 2 ^ k in omega arith in
    has_half (2 ^ suc k - 1 - a) e
    ∙ ap (λ (x : ℕ). has_bit x e) q
    ∙ has_complement k (a / 2) e (let x = 2 ^ k in omega arith) (omega arith)
    ∙ ap not (sym (has_half a e))

-- ---- a run of events

-- the first k events
has_below : (k e : ℕ) → has_bit (2 ^ k - 1) e ≡ ltb e k
unfolding has_bit
has_below k e = go (dec_lt e k)
  where
    go : Dec (e < k) → has_bit (2 ^ k - 1) e ≡ ltb e k
    go (yes l) =
        let q : 2 ^ k - 1 ≡ 2 ^ k - 1 - 0 = omega arith in
        ap (λ (x : ℕ). has_bit x e) q ∙ has_complement k 0 e (pow_pos k) l ∙ ap not (no_bit e) ∙ sym (lt-ltb e k l)
    go (no l) = rw (div-eq_of_lt (lt_of_lt_of_le (ones_lt k) (pow_mono {i = k} {j = e} (omega arith))), le-ltb e k (omega arith))

-- those from one on, up to another
pub has_from-to : (from to : ℕ) → from ≤ to → (e : ℕ) → has_bit ((2 ^ (to - from) - 1) * 2 ^ from) e ≡ (leb from e && ltb e to)
unfolding has_bit
has_from-to from to h e = go (dec_lt e to) (dec_lt e from)
  where
    low : 2 ^ from ≤ 2 ^ to
    low = pow_mono h

    run : (2 ^ (to - from) - 1) * 2 ^ from ≡ 2 ^ to - 1 - (2 ^ from - 1)
    run =
        let q : to - from + from ≡ to = omega arith in
        let p = pow_pos from in
        sym (high_ones (to - from) from) ∙ rw q (let x = 2 ^ from in let y = 2 ^ to in omega arith)

    go : Dec (e < to) → Dec (e < from) → has_bit ((2 ^ (to - from) - 1) * 2 ^ from) e ≡ (leb from e && ltb e to)
    go (yes l) (yes m) =
        ap (λ (x : ℕ). has_bit x e) run
        ∙ has_complement to (2 ^ from - 1) e (let p = pow_pos from in omega (arith, low)) l
        ∙ rw (has_below from e, lt-ltb e from m, lt-leb from e m)
    go (yes l) (no m) =
        ap (λ (x : ℕ). has_bit x e) run
        ∙ has_complement to (2 ^ from - 1) e (let p = pow_pos from in omega (arith, low)) l
        ∙ rw (has_below from e, le-ltb e from (omega arith), le-leb from e (omega arith), lt-ltb e to l)
    go (no l) d =
        let u : 2 ^ to - 1 - (2 ^ from - 1) < 2 ^ e = let p = pow_pos to in let m = pow_mono {i = to} {j = e} (omega arith) in omega arith in
        ap (λ (x : ℕ). has_bit x e) run ∙ rw (div-eq_of_lt u, le-ltb e to (omega arith)) (sym (and-false (leb from e)))

-- ---- the first event

-- the first event of an odd set is 0, that of an even set is one after that of its half
first-odd : (k set : ℕ) → set % 2 ≡ 1 → First (suc k) set zero
first-odd k set odd = record { below = omega arith; there = has_low set ∙ rw odd; only = only }
  where
    only : (i : ℕ) → (has_bit set i && has_bit (set - 1) i) ≡ (has_bit set i && not (eqb i zero))
    only zero =
        let even : (set - 1) % 2 ≡ 0 = omega arith in
        rw (has_low set, has_low (set - 1), odd, even)
    only (suc i) =
        let same : (set - 1) / 2 ≡ set / 2 = omega arith in
        rw (has_half set i, has_half (set - 1) i, same, ne_eqb (suc i) zero (λ q. omega arith))
        (and_self (has_bit (set / 2) i) ∙ sym (and-true (has_bit (set / 2) i)))

first-even : (k set : ℕ) {first : ℕ} → 0 < set → set % 2 ≡ 0 → First k (set / 2) first → First (suc k) set (suc first)
first-even k set {first} some even f =
    record { below = let b = f.below in omega arith; there = has_half set first ∙ f.there; only = only }
  where
    only : (i : ℕ) → (has_bit set i && has_bit (set - 1) i) ≡ (has_bit set i && not (eqb i (suc first)))
    only zero = rw (has_low set, even)
    only (suc i) =
        let less : (set - 1) / 2 ≡ set / 2 - 1 = omega arith in
        rw (has_half set i, has_half (set - 1) i, less, compare.suc-suc i first) (f.only i)

-- the first event is the number of zeros that the set ends in
pub first-is : (k set : ℕ) → 0 < set → set < 2 ^ k → First k set (count_trailing_zeros k set)
unfolding count_trailing_zeros
first-is zero set some low = absurd (omega arith)
first-is (suc k) set some low = go (set % 2) refl (λ more. first-is k (set / 2) more (let p = pow-suc 2 k in let x = 2 ^ k in omega arith))
  where
    go : (d : ℕ) → set % 2 ≡ d → (0 < set / 2 → First k (set / 2) (count_trailing_zeros k (set / 2)))
        → First (suc k) set (under d (count_trailing_zeros k (set / 2)))
    go zero e half = first-even k set some e (half (omega arith))
    go (suc d) e half = first-odd k set (omega arith)

-- the set without its first event
pub rest-is : {set first : ℕ} → First 64 set first → (i : ℕ) → has_bit (bit_and set (set - 1)) i ≡ (has_bit set i && not (eqb i first))
rest-is {set} f i = has_and set (set - 1) i ∙ f.only i

-- ---- no event

-- a number is 0 exactly where none of its bits is set
pub no_bits_lem : (k bits : ℕ) → bits < 2 ^ k → eqb bits 0 ≡ not (any (has_bit bits) k)
no_bits_lem k zero h = sym (ap not (any_none (has_bit 0) k no_bit))
no_bits_lem k (suc b) h =
    let f = first-is k (suc b) (omega arith) h in
    rw (any_stop (has_bit (suc b)) k _ f.below f.there) (ne_eqb (suc b) 0 (λ q. omega arith))

-- ---- one event more

-- the event itself, and the others
module _ (set e : ℕ) (h : e < 64) (x : Bool) where
  pub settle-same : has_bit (cond x (with_bit set e) set) e ≡ (has_bit set e || x)
  settle-same = go x
    where
      go : (x : Bool) → has_bit (cond x (with_bit set e) set) e ≡ (has_bit set e || x)
      go true = has_with_same set e h ∙ sym (or-true (has_bit set e))
      go false = sym (or-false (has_bit set e))

  pub settle_other : (i : ℕ) → (i ≡ e → ⊥) → has_bit (cond x (with_bit set e) set) i ≡ has_bit set i
  settle_other i n = go x
    where
      go : (x : Bool) → has_bit (cond x (with_bit set e) set) i ≡ has_bit set i
      go true = has_with_other set e h i n
      go false = refl
