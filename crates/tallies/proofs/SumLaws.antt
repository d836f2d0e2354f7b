-- Laws of tallies added up, and of tallies whose numbers are at most one that is known.
use Rattle.std.proofs.Common.{◌≡◌, ℕ, ◌+◌, ◌%◌, ◌<◌, ◌≤◌, List, [], ◌∷◌, ◌++◌, length, get_or, sym, ap, ◌∙◌, mod-eq_of_lt, zero-add, arith, ext_get_or}
use native.Mathlib.Decide.{dec_lt}
use lib.ListN.{length-map, length-replicate, get_or-replicate, get_or-map, get_or-eq_default}
use Rattle.counter.specs.Counting.{no_tally}
use Rattle.counter.specs.declared.Tally.{Tally}
use Rattle.counter.proofs.TableLaws.{length-table, get_or-table}
use Rattle.tallies.specs.Inner.Bounds.{Within}
use Rattle.tallies.specs.Sums.{together, total, wrapped}

-- ---- tallies with the same numbers

same_parts : {m n i j u v : ℕ} {k l : List ℕ} → m ≡ n → i ≡ j → u ≡ v → k ≡ l
    → ◌≡◌ {A = Tally} (record { taken = m; spoilt = i; counts = k; unclaimed = u }) (record { taken = n; spoilt = j; counts = l; unclaimed = v })
same_parts t s u c = rw (t, s, u, c)

pub same-tally : {a b : Tally} → a.taken ≡ b.taken → a.spoilt ≡ b.spoilt → a.unclaimed ≡ b.unclaimed
    → length a.counts ≡ 64 → length b.counts ≡ 64
    → ((r : ℕ) → r < 64 → get_or a.counts r 0 ≡ get_or b.counts r 0) → a ≡ b
same-tally {a} {b} t s u la lb h = same_parts t s u (ext_get_or 0 a.counts b.counts (la ∙ sym lb) (λ r l. h r (omega arith)))

-- ---- no tally

pub none-count : (r : ℕ) → get_or no_tally.counts r 0 ≡ 0
unfolding no_tally
none-count r = go (dec_lt r 64)
  where
    go : Dec (r < 64) → get_or no_tally.counts r 0 ≡ 0
    go (yes l) = get_or-replicate {A = ℕ} 64 r 0 0 l
    go (no l) = get_or-eq_default no_tally.counts 0 {n = r} (omega arith)

pub none-long : length no_tally.counts ≡ 64
unfolding no_tally
none-long = length-replicate {A = ℕ} 64 0

-- ---- two tallies as one

module _ (a b : Tally) where
  pub together-count : (r : ℕ) → r < 64 → get_or (together a b).counts r 0 ≡ get_or a.counts r 0 + get_or b.counts r 0
  unfolding together
  together-count r h = get_or-table (λ r. get_or a.counts r 0 + get_or b.counts r 0) 0 64 r h ∙ rw zero-add

  pub together-long : length (together a b).counts ≡ 64
  unfolding together
  together-long = length-table (λ r. get_or a.counts r 0 + get_or b.counts r 0) 0 64

pub together_comm : (a b : Tally) → together a b ≡ together b a
unfolding together
together_comm a b =
    same-tally (omega arith) (omega arith) (omega arith) (together-long a b) (together-long b a)
    (λ r h. omega (arith, together-count a b r h, together-count b a r h))

pub together-assoc : (a b c : Tally) → together (together a b) c ≡ together a (together b c)
unfolding together
together-assoc a b c =
    same-tally (omega arith) (omega arith) (omega arith) (together-long (together a b) c) (together-long a (together b c))
    (λ r h. omega (arith, together-count a b r h, together-count b c r h, together-count (together a b) c r h, together-count a (together b c) r h))

module _ (t : Tally) (long : length t.counts ≡ 64) where
  pub together-none-left : together no_tally t ≡ t
  unfolding together no_tally
  together-none-left =
      same-tally (omega arith) (omega arith) (omega arith) (together-long no_tally t) long
      (λ r h. together-count no_tally t r h ∙ rw (none-count r, zero-add))

  pub together-none-right : together t no_tally ≡ t
  together-none-right = together_comm t no_tally ∙ together-none-left

-- ---- all tallies of a list as one

pub total-long : (ts : List Tally) → length (total ts).counts ≡ 64
unfolding total
total-long [] = none-long
total-long (t ∷ ts) = together-long t (total ts)

-- one tally more, at the end
pub total-more : (ts : List Tally) (t : Tally) → total (ts ++ (t ∷ [])) ≡ together (total ts) t
unfolding total
total-more [] t = together_comm t no_tally
total-more (u ∷ ts) t = ap (together u) (total-more ts t) ∙ sym (together-assoc u (total ts) t)

-- ---- tallies of 64 counts whose numbers are at most e

-- it is enough to look at the 64 counts
pub within_64 : {e : ℕ} {t : Tally} → t.taken ≤ e → t.spoilt ≤ e → t.unclaimed ≤ e → length t.counts ≡ 64
    → ((r : ℕ) → r < 64 → get_or t.counts r 0 ≤ e) → Within e t
within_64 {e} {t} a s u l h = record { taken_most = a; spoilt_most = s; count_most = λ r. go r (dec_lt r 64); long = l; unclaimed_most = u }
  where
    go : (r : ℕ) → Dec (r < 64) → get_or t.counts r 0 ≤ e
    go r (yes k) = h r k
    go r (no k) = let z = get_or-eq_default t.counts 0 {n = r} (omega arith) in omega arith

pub within_none : Within 0 no_tally
unfolding no_tally
within_none = within_64 (omega arith) (omega arith) (omega arith) none-long (λ r h. let z = none-count r in omega arith)

pub within-together : {d e : ℕ} {a b : Tally} → Within d a → Within e b → Within (d + e) (together a b)
unfolding together
within-together {d} {e} {a} {b} u v =
    within_64 (omega (arith, u.taken_most, v.taken_most)) (omega (arith, u.spoilt_most, v.spoilt_most))
    (omega (arith, u.unclaimed_most, v.unclaimed_most)) (together-long a b)
    (λ r h. omega (arith, together-count a b r h, u.count_most r, v.count_most r))

pub within_more : {d e : ℕ} {t : Tally} → d ≤ e → Within d t → Within e t
within_more {d} {e} {t} h w = record {
  taken_most = omega (arith, w.taken_most);
  spoilt_most = omega (arith, w.spoilt_most);
  count_most = λ r. omega (arith, w.count_most r);
  long = w.long;
  unclaimed_most = omega (arith, w.unclaimed_most);
}

-- ---- modulo 2^64

module _ (t : Tally) where
  pub wrapped-count : (r : ℕ) → get_or (wrapped t).counts r 0 ≡ get_or t.counts r 0 % 18446744073709551616
  unfolding wrapped
  wrapped-count r = get_or-map (λ (c : ℕ). c % 18446744073709551616) t.counts r 0

  pub wrapped-long : length (wrapped t).counts ≡ length t.counts
  unfolding wrapped
  wrapped-long = length-map t.counts (λ (c : ℕ). c % 18446744073709551616)

-- numbers below 2^64 stay
pub wrapped-small : {e : ℕ} {t : Tally} → Within e t → e < 18446744073709551616 → wrapped t ≡ t
unfolding wrapped
wrapped-small {e} {t} w h =
    same-tally (mod-eq_of_lt (omega (arith, w.taken_most))) (mod-eq_of_lt (omega (arith, w.spoilt_most)))
    (mod-eq_of_lt (omega (arith, w.unclaimed_most))) (wrapped-long t ∙ w.long) w.long
    (λ r l. wrapped-count t r ∙ mod-eq_of_lt (omega (arith, w.count_most r)))
