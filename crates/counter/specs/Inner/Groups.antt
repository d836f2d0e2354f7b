-- Sets of the events of a group, as the bits of a number: bit e for event e of at most 64.
use Rattle.std.specs.Prelude.{◌≡◌, Bool, true, not, ◌&&◌, cond, List, ℕ, ◌-◌, ◌*◌, ◌/◌, ◌%◌, ◌<◌, ◌≤◌, ℤ, length, get_or, eqb, leb, ltb, Option, None, Some}
use Rattle.plans.specs.Indices.{all, any}
use Rattle.plans.specs.Words.{word, number}
use Rattle.plans.specs.Bits.{has_bit}
use Rattle.counter.specs.Members.{triple_in, step_in, bits_of}
use Rattle.counter.specs.Counting.{event_at}
use Rattle.counter.specs.Positions.{not_outside}
use Rattle.counter.specs.Inner.Steps.{position_to, position_in, Taken}
use Rattle.counter.specs.declared.steps.Shape.{Shape}
use Rattle.counter.specs.declared.steps.Step.{Step}

-- ---- sets of events

-- a set is that of the events that pass a test
pub record SetOf (test : ℕ → Bool) (set : ℕ) : Type 0 where
  pub each : (e : ℕ) → e < 64 → has_bit set e ≡ test e

-- a set is that of the events of another that pass a test
pub record Those (among : ℕ) (test : ℕ → Bool) (set : ℕ) : Type 0 where
  pub each : (e : ℕ) → e < 64 → has_bit set e ≡ (has_bit among e && test e)

-- the first event of a set of events below k: of its bits the only one that the number one less does not have
pub record First (k set first : ℕ) : Type 0 where
  pub below : first < k
  pub there : has_bit set first ≡ true
  pub only : (e : ℕ) → (has_bit set e && has_bit (set - 1) e) ≡ (has_bit set e && not (eqb e first))

unfoldable pub outside : ℕ → ℕ → Bool
outside set e = not (has_bit set e)

-- event e is one of the first g, and passes a test
unfoldable pub first_of : (ℕ → Bool) → ℕ → ℕ → Bool
first_of test g e = ltb e g && test e

-- event e is one of those from one on, up to another
unfoldable pub from_to : ℕ → ℕ → ℕ → Bool
from_to from to e = leb from e && ltb e to

-- each event of a set is one of the g events of the group, and taken
pub record Candidates (n : ℕ) (group : List ℤ) (g among : ℕ) : Type 0 where
  pub few : g ≤ 64
  pub whole : g * n ≤ length group
  pub below : (e : ℕ) → e < 64 → has_bit among e ≡ true → e < g
  pub taken : (e : ℕ) → e < 64 → has_bit among e ≡ true → Taken (event_at n group e)

-- event e is in triple t of a box
unfoldable pub triple_at : ℕ → List ℤ → List ℤ → ℕ → ℕ → Bool
triple_at n group body t e = triple_in (event_at n group e) body t

-- event e is in the triples before the t-th
unfoldable pub triples_at : ℕ → List ℤ → List ℤ → ℕ → ℕ → Bool
triples_at n group body t e = all (triple_in (event_at n group e) body) t

-- ---- the members of each region

-- event e is in the set of region q
unfoldable pub in_set : List ℕ → ℕ → ℕ → Bool
in_set sets e q = has_bit (get_or sets q 0) e

-- event e is in none of the first m sets
unfoldable pub in_none : List ℕ → ℕ → ℕ → Bool
in_none sets m e = not (any (in_set sets e) m)

-- the sets say of each event of `among` what its bits say
pub record Agree (among : ℕ) (sets : List ℕ) (bits : ℕ → ℕ) : Type 0 where
  pub each : (e q : ℕ) → e < 64 → q < 64 → has_bit among e ≡ true → in_set sets e q ≡ has_bit (bits e) q

-- the sets say of each event that is taken what its bits say, and hold no other
pub record Matched (taken : ℕ) (sets : List ℕ) (bits : ℕ → ℕ) : Type 0 where
  pub each : (e q : ℕ) → e < 64 → q < 64 → in_set sets e q ≡ (has_bit taken e && has_bit (bits e) q)

-- operand i of a combination, for event e
unfoldable pub operand_at : List ℕ → List ℤ → ℕ → ℕ → Bool
operand_at sets body i e =
    cond (eqb (number (word body i) % 2) 1) (not (in_set sets e (number (word body i) / 2)))
    (in_set sets e (number (word body i) / 2))

unfoldable pub all_at : List ℕ → List ℤ → ℕ → ℕ → Bool
all_at sets body i e = all (λ k. operand_at sets body k e) i

unfoldable pub any_at : List ℕ → List ℤ → ℕ → ℕ → Bool
any_at sets body i e = any (λ k. operand_at sets body k e) i

-- event e is in the parent's set, or taken where there is no parent
abbrev pub parent_at : List ℕ → ℕ → Option ℕ → ℕ → Bool
parent_at sets taken None e = has_bit taken e
parent_at sets taken (Some r) e = in_set sets e r

-- event e is in a shape
unfoldable pub drawn_at : Shape → ℕ → List ℤ → List ℤ → ℕ → Bool
drawn_at shape n group body e = not_outside (position_to shape (event_at n group e) body)

-- event e is in what a step draws or combines
unfoldable pub shape_at : Step → ℕ → List ℤ → List ℤ → (ℕ → ℕ) → ℕ → Bool
shape_at step n group body bits e = not_outside (position_in step (event_at n group e) (bits e) body)

-- the step at a place makes event e a member of its region
unfoldable pub member_by : List ℤ → ℕ → List ℤ → ℕ → (ℕ → ℕ) → ℕ → Bool
member_by p n group at bits e = step_in p (event_at n group e) (bits e) at

-- event e is a member of region q, where it is taken
unfoldable pub member_in : List ℤ → ℕ → List ℤ → ℕ → ℕ → Bool
member_in p n group q e = has_bit (bits_of p (event_at n group e)) q

-- the sets of the members of each region
pub record MemberSets (p : List ℤ) (n : ℕ) (group : List ℤ) (taken : ℕ) (sets : List ℕ) : Type 0 where
  pub long : length sets ≡ 64
  pub each : (q : ℕ) → q < 64 → Those taken (member_in p n group q) (get_or sets q 0)
