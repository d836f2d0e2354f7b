-- Events that no region claims, to a reader: what demand 3 says of them together with the events taken.
use mathlib.Core.Path.{◌≡◌, sym, ap₂, ◌∙◌}
use mathlib.Core.Bool.{true, false, ◌&&◌}
use mathlib.Core.Logic.{◌⊎◌, inl, inr}
use mathlib.Core.List.{List, []}
use Prim.Native.Nat.{ℕ, ◌+◌}
use native.Mathlib.Omega.{arith}
use lib.IntN.{ℤ}
use Rattle.plans.specs.Indices.{how_many}
use Rattle.plans.proofs.IndexLaws.{how_many-same, how_many-split, how_many-none}
use Rattle.counter.specs.Judging.{taken}
use Rattle.counter.specs.Counting.{event_at, taken_at}
use Rattle.text.proofs.TestLaws.{true≢false, passed_or_failed}
use Rattle.gates.specs.Gate.{Event, Gate, regions}
use Rattle.tables.specs.Table.{names}
use Rattle.tables.specs.Head.{gates}
use Rattle.tables.specs.Members.{member, claimed, unclaimed}
use Rattle.tables.specs.TableCount.{TableCounting}
use Rattle.tables.specs.Demand.{dims, event_count, Demand3}
use Rattle.tables.proofs.ListLaws.{some-found, unless}
use Rattle.tables.proofs.MemberTheorems.{member-spoilt}

module _ (t : List Gate) (e : Event) where
  -- an event that is spoilt is in no region, and none is where there is no region
  claimed-spoilt : taken e ≡ false → claimed t e ≡ false
  unfolding claimed
  claimed-spoilt h =
      unless _ (λ c. let n = some-found (member t e) (names (regions t)) c in true≢false (sym n.2 ∙ member-spoilt t e h n.0))

  claimed-nowhere : regions t ≡ [] → claimed t e ≡ false
  unfolding claimed
  claimed-nowhere none = rw none

  in_some : (taken e && claimed t e) ≡ claimed t e
  in_some = go (passed_or_failed (taken e))
    where
      go : (taken e ≡ true) ⊎ (taken e ≡ false) → (taken e && claimed t e) ≡ claimed t e
      go (inl h) = rw h
      go (inr h) = rw (h, claimed-spoilt h)

-- text is the accepted table, again an order of it
module _ (text again : List ℕ) (values : List ℤ) (c : TableCounting) (kept : Demand3 text again values c) where
  -- the number of listed events that are members of some region, by the accepted table's own lines
  abbrev pub claimed_of : ℕ
  claimed_of = how_many (λ j. claimed (gates text) (event_at (dims text) values j)) (event_count text values)

  -- taken are those unclaimed and those in some region
  pub claimed_or_not : c.tally.taken ≡ c.tally.unclaimed + claimed_of
  unfolding taken_at unclaimed
  claimed_or_not =
      let m = event_count text values in
      kept.all_taken
      ∙ how_many-split (taken_at (dims text) values) (λ j. claimed (gates text) (event_at (dims text) values j)) m
      ∙ ap₂ ◌+◌ (sym kept.all_unclaimed) (how_many-same _ _ m (λ j h. in_some (gates text) (event_at (dims text) values j)))

  -- without regions all that are taken are unclaimed
  pub none-claimed : regions (gates text) ≡ [] → c.tally.unclaimed ≡ c.tally.taken
  none-claimed none =
      let z : claimed_of ≡ 0 = how_many-none _ (event_count text values) (λ j h. claimed-nowhere (gates text) (event_at (dims text) values j) none) in
      let s = claimed_or_not in
      omega arith
