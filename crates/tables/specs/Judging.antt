-- Judging by the plan of a table with its gate lines in any order: what is claimed of a table, an order of its gate lines and one event.
use Rattle.std.specs.Prelude.{◌≡◌, Bool, cond, List, ℕ, ◌<◌}
use Rattle.plans.specs.Bits.{has_bit}
use Rattle.plans.specs.Refusals.{passed, refused}
use Rattle.counter.specs.Judging.{taken, first_spoilt, Judgement}
use Rattle.gates.specs.Gate.{Name, Event, Region, regions}
use Rattle.tables.specs.Table.{◌∈◌, nth_region, number_of}
use Rattle.tables.specs.Head.{gates}
use Rattle.tables.specs.Members.{member}
use Rattle.tables.specs.Outlines.{outline_member}

-- the bit at the number that the reordered table gives the region of that name
abbrev pub bit_of_name : List ℕ → ℕ → Name → Bool
bit_of_name again bits name = has_bit bits (number_of (regions (gates again)) name)

-- text is the accepted table, again the same with its gate lines in another order, j the judgement of the event by the plan of again
pub record JudgedByName (text again : List ℕ) (event : Event) (j : Judgement) : Type 0 where
  -- judged where it is taken; else spoilt, at its first bad value
  pub verdict_is : j.verdict ≡ cond (taken event) passed (refused 24 (first_spoilt event))
  -- the number at which a region is found by its name is one of the 64, and its own in the reordered table
  pub found : (r : Region) → r ∈ regions (gates text)
      → (number_of (regions (gates again)) r.name < 64) × (nth_region (regions (gates again)) (number_of (regions (gates again)) r.name) ≡ r)
  -- each region, found by its name, has its bit exactly where the accepted table's own lines make the event its member
  pub member_bit : (r : Region) → r ∈ regions (gates text) → bit_of_name again j.bits r.name ≡ member (gates text) event r.name
  -- and its outline bit exactly where they have the event, a member, on the outline of the region's own shape
  pub outline_bit : (r : Region) → r ∈ regions (gates text) → bit_of_name again j.outline r.name ≡ outline_member (gates text) event r.name
