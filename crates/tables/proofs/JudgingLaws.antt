-- Judging by the plan of a table with its gate lines in any order: one theorem about a table, an order and an event. Its claim stands in specs/Judging.
use mathlib.Core.Path.{◌≡◌, sym, ap, ◌∙◌}
use mathlib.Core.Bool.{Bool, true, false, ◌&&◌, cond}
use mathlib.Core.Logic.{◌⊎◌, inl, inr}
use mathlib.Core.List.{List}
use Prim.Native.Nat.{ℕ}
use lib.IntN.{ℤ}
use lib.ListN.{length}
use Rattle.plans.specs.Bits.{has_bit}
use Rattle.plans.specs.Refusals.{passed, refused}
use Rattle.plans.specs.Form.{width, check_of}
use Rattle.plans.proofs.BitLaws.{no_bit}
use Rattle.counter.specs.Outlines.{outline_of}
use Rattle.counter.specs.Judging.{taken, first_spoilt, Judgement, judge_of}
use Rattle.counter.proofs.CounterTheorems.{judged-taken, judged-spoilt, judged-members}
use Rattle.text.proofs.TestLaws.{passed_or_failed}
use Rattle.gates.specs.Gate.{Event, Gate, Region, regions}
use Rattle.tables.specs.Table.{◌∈◌, number_of}
use Rattle.tables.specs.Head.{gates, LineOrder, reordered}
use Rattle.tables.specs.Members.{member}
use Rattle.tables.specs.Outlines.{on_shape, outline_member}
use Rattle.tables.specs.Steps.{plan_words}
use Rattle.tables.specs.Refusals.{table_verdict}
use Rattle.tables.specs.Compile.{plan_of}
use Rattle.tables.specs.Demand.{dims}
use Rattle.tables.specs.Judging.{bit_of_name, JudgedByName}
use Rattle.tables.specs.Further.Rules.{Rules}
use Rattle.tables.proofs.ListLaws.{map_in}
use Rattle.tables.proofs.NameLaws.{in_number}
use Rattle.tables.proofs.GateLaws.{orderly, moved-name, moved_obeys}
use Rattle.tables.proofs.PlanMembers.{outline-right}
use Rattle.tables.proofs.MemberLaws.{at-region}
use Rattle.tables.proofs.MemberTheorems.{member-spoilt, member_obeys}
use Rattle.tables.proofs.CountLaws.{plan-width, good-regions, member_by_name}
use Rattle.tables.proofs.CompileLaws.{plan-passes}
use Rattle.tables.proofs.OrderedAgain.{OrderedAgain, ordered-again}

-- ---- by the lines

module _ (t : List Gate) (e : Event) (r : Region) where
  -- a member, on the outline of the region's own shape
  own-outline : Rules t → r ∈ regions t → outline_member t e r.name ≡ (member t e r.name && on_shape e r.shape)
  unfolding outline_member
  own-outline ok m = ap (λ (b : Bool). member t e r.name && b) (at-region (λ (x : Region). on_shape e x.shape) (orderly t ok).distinct m)

  outline-spoilt : taken e ≡ false → outline_member t e r.name ≡ false
  unfolding outline_member
  outline-spoilt h = rw (member-spoilt t e h r.name)

-- ---- for one text, order and event

module _ (text : List ℕ) (accepted : table_verdict 4096 text ≡ passed) (ks : List (List ℕ)) (order : LineOrder text ks)
    (event : Event) (long : length event ≡ dims text) where
  abbrev again : List ℕ
  again = reordered text ks

  abbrev t : List Gate
  t = gates text

  abbrev u : List Gate
  u = gates again

  both : OrderedAgain text again
  both = ordered-again text accepted ks order

  -- the reordered table's plan, which passes
  abbrev plan : List ℤ
  plan = plan_words (dims text) (regions u)

  is-passing : check_of plan ≡ passed
  is-passing = rw (← both.is_words) (plan-passes 4096 again both.second)

  is_wide : length event ≡ width plan
  is_wide = long ∙ sym (plan-width (dims text) (regions u))

  abbrev judged : Judgement
  judged = judge_of plan event

  verdict-of : judged.verdict ≡ cond (taken event) passed (refused 24 (first_spoilt event))
  verdict-of = go (passed_or_failed (taken event))
    where
      go : (taken event ≡ true) ⊎ (taken event ≡ false) → judged.verdict ≡ cond (taken event) passed (refused 24 (first_spoilt event))
      go (inl h) = rw (judged-taken plan event is-passing is_wide h, h)
      go (inr h) = rw (judged-spoilt plan event is-passing is_wide h, h)

  member_of_lem : (r : Region) → r ∈ regions t → bit_of_name again judged.bits r.name ≡ member t event r.name
  member_of_lem r m =
      ap (λ (k : ℕ). bit_of_name again k r.name) (judged-members plan event is-passing is_wide)
      ∙ member_by_name t u both.moved both.first.rules (dims text) both.some_values both.good_gates event long r.name
      (moved-name both.moved (map_in (λ (x : Region). x.name) m))

  -- the outline bit of an event that is taken, at the number found by the name
  outline-taken : taken event ≡ true → (r : Region) → r ∈ regions t
      → has_bit (outline_of plan event) (number_of (regions u) r.name) ≡ outline_member t event r.name
  outline-taken h r m =
      let ok = both.first.rules in
      let k = in_number (regions u) r.name (moved-name both.moved (map_in (λ (x : Region). x.name) m)) in
      outline-right (regions u) (orderly u both.second.rules) (dims text) (good-regions (dims text) u both.good_gates) event long h (member t event)
      (moved_obeys t u both.moved event (member t event) (member_obeys t event ok h)) (number_of (regions u) r.name) k
      ∙ ap (λ (x : Region). member t event x.name && on_shape event x.shape) (both.found r m).1
      ∙ sym (own-outline t event r ok m)

  outline-of : (r : Region) → r ∈ regions t → bit_of_name again judged.outline r.name ≡ outline_member t event r.name
  outline-of r m = go (passed_or_failed (taken event))
    where
      go : (taken event ≡ true) ⊎ (taken event ≡ false) → bit_of_name again judged.outline r.name ≡ outline_member t event r.name
      go (inl h) =
          ap (λ (j : Judgement). bit_of_name again j.outline r.name) (judged-taken plan event is-passing is_wide h)
          ∙ outline-taken h r m
      go (inr h) =
          ap (λ (j : Judgement). bit_of_name again j.outline r.name) (judged-spoilt plan event is-passing is_wide h)
          ∙ no_bit (number_of (regions u) r.name)
          ∙ sym (outline-spoilt t event r h)

  whole : JudgedByName text again event (judge_of (plan_of again) event)
  whole = rw both.is_words (record { verdict_is = verdict-of; found = both.found; member_bit = member_of_lem; outline_bit = outline-of })

-- ---- the theorem

-- every accepted table, every order of its gate lines, every event of as many values as the head has names
pub judged_by_name : (text : List ℕ) → table_verdict 4096 text ≡ passed → (ks : List (List ℕ)) → LineOrder text ks
    → (event : Event) → length event ≡ dims text → JudgedByName text (reordered text ks) event (judge_of (plan_of (reordered text ks)) event)
judged_by_name text accepted ks order event long = whole text accepted ks order event long
