-- The loop that adds the counts of two tallies, region by region.
use Rattle.std.proofs.Common.{◌≡◌, ℕ, ◌+◌, ◌%◌, ◌<◌, ◌≤◌, List, length, get_or, set, sym, refl, ◌∙◌, arith, length-set, get_or-set_other, get_or-set_same}
use native.Mathlib.Decide.{ℕ_discrete}
use Rattle.counter.specs.declared.Tally.{Tally}
use Rattle.tallies.specs.Sums.{together, wrapped}
use Rattle.tallies.proofs.SumLaws.{same-tally, together-count, together-long, wrapped-count, wrapped-long}

-- the counts below r are sums, and those from r on are the first tally's
pub record Added (a b : List ℕ) (r : ℕ) (counts : List ℕ) : Type 0 where
  pub long : length counts ≡ 64
  pub sums : (s : ℕ) → s < r → get_or counts s 0 ≡ (get_or a s 0 + get_or b s 0) % 18446744073709551616
  pub first : (s : ℕ) → r ≤ s → get_or counts s 0 ≡ get_or a s 0

module _ (a b : List ℕ) where
  pub added_none : length a ≡ 64 → Added a b 0 a
  added_none l = record { long = l; sums = λ s h. absurd (omega arith); first = λ s h. refl }

  pub added_next : (r : ℕ) → r < 64 → {counts : List ℕ} → Added a b r counts
      → {v : ℕ} → v ≡ (get_or counts r 0 + get_or b r 0) % 18446744073709551616 → Added a b (r + 1) (set counts r v)
  added_next r low {counts} c {v} e = record {
    long = length-set counts r v ∙ c.long;
    sums = λ s h. go s h (ℕ_discrete s r);
    first = λ s h. get_or-set_other counts r s v 0 (λ q. omega arith) ∙ c.first s (omega arith);
  }
    where
      here : get_or (set counts r v) r 0 ≡ (get_or a r 0 + get_or b r 0) % 18446744073709551616
      here = get_or-set_same counts r v 0 (let l = c.long in omega arith) ∙ e ∙ rw (c.first r (omega arith))

      go : (s : ℕ) → s < r + 1 → Dec (s ≡ r) → get_or (set counts r v) s 0 ≡ (get_or a s 0 + get_or b s 0) % 18446744073709551616
      go s h (yes q) = rw q here
      go s h (no q) = get_or-set_other counts r s v 0 q ∙ c.sums s (omega (arith, q))

-- all counts are added
pub added_all : (a b : Tally) {t : Tally} → t.taken ≡ (a.taken + b.taken) % 18446744073709551616 → t.spoilt ≡ (a.spoilt + b.spoilt) % 18446744073709551616
    → t.unclaimed ≡ (a.unclaimed + b.unclaimed) % 18446744073709551616
    → (r : ℕ) → 64 ≤ r → Added a.counts b.counts r t.counts → t ≡ wrapped (together a b)
unfolding wrapped together
added_all a b {t} et es eu r h c =
    same-tally et es eu c.long (wrapped-long (together a b) ∙ together-long a b)
    (λ s l. c.sums s (omega arith) ∙ sym (wrapped-count (together a b) s ∙ rw (together-count a b s l)))
