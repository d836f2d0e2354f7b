-- An accepted table and the same with its gate lines in another order: what both share, and where a region is found by its name.
use mathlib.Core.Path.{◌≡◌, sym, ap, ◌∙◌}
use mathlib.Core.List.{List, Permᴰ}
use Prim.Native.Nat.{ℕ, ◌<◌, ◌≤◌}
use native.Mathlib.Omega.{arith}
use lib.ListN.{length}
use Rattle.plans.specs.Refusals.{passed}
use Rattle.gates.specs.Gate.{Gate, Region, regions}
use Rattle.gates.proofs.GoodGate.{GoodBody}
use Rattle.tables.specs.Table.{◌∈◌, nth_region, number_of}
use Rattle.tables.specs.Head.{gates, LineOrder, reordered}
use Rattle.tables.specs.Steps.{plan_words}
use Rattle.tables.specs.Refusals.{table_verdict}
use Rattle.tables.specs.Compile.{plan_of}
use Rattle.tables.specs.Demand.{dims}
use Rattle.tables.proofs.NameLaws.{region-of, number_at}
use Rattle.tables.proofs.GateLaws.{orderly, moved-region}
use Rattle.tables.proofs.Acceptance.{Accepted, passed-accepted}
use Rattle.tables.proofs.ReorderLaws.{same-dimensions, gates-moved, reordered-accepted}
use Rattle.tables.proofs.CompileLaws.{head-width, gates-good}

pub record OrderedAgain (text again : List ℕ) : Type 0 where
  -- both are accepted, with the same dimensions and, in another order, the same gates
  pub first : Accepted 4096 text
  pub second : Accepted 4096 again
  pub some_values : 1 ≤ dims text
  pub same_n : dims again ≡ dims text
  pub moved : Permᴰ (gates text) (gates again)
  pub is_words : plan_of again ≡ plan_words (dims text) (regions (gates again))
  pub good_gates : (g : Gate) → g ∈ gates again → GoodBody (dims text) g.body
  -- the number at which a region is found by its name is one of the 64, and its own
  pub found : (r : Region) → r ∈ regions (gates text)
      → (number_of (regions (gates again)) r.name < 64) × (nth_region (regions (gates again)) (number_of (regions (gates again)) r.name) ≡ r)

module _ (text : List ℕ) (accepted : table_verdict 4096 text ≡ passed) (ks : List (List ℕ)) (order : LineOrder text ks) where
  abbrev again : List ℕ
  again = reordered text ks

  abbrev u : List Gate
  u = gates again

  a : Accepted 4096 text
  a = passed-accepted 4096 text accepted

  b : Accepted 4096 again
  b = reordered-accepted 4096 text a ks order

  same : dims again ≡ dims text
  same = ap length (same-dimensions 4096 text a ks order)

  words : plan_of again ≡ plan_words (dims text) (regions u)
  unfolding plan_of
  words = rw same

  found-is : (r : Region) → r ∈ regions (gates text)
      → (number_of (regions u) r.name < 64) × (nth_region (regions u) (number_of (regions u) r.name) ≡ r)
  found-is r m =
      let few = b.rules.few in
      let i = region-of (regions u) (moved-region (gates-moved 4096 text a ks order) m) in
      let l : i.0 < length (regions u) = i.1 in
      let e : number_of (regions u) r.name ≡ i.0 =
      ap (λ (x : Region). number_of (regions u) x.name) (sym i.2) ∙ number_at (regions u) (orderly u b.rules).distinct i.0 i.1 in
      (omega arith, ap (nth_region (regions u)) e ∙ i.2)

  pub ordered-again : OrderedAgain text again
  ordered-again = record {
    first = a;
    second = b;
    some_values = (head-width text a.head).0;
    same_n = same;
    moved = gates-moved 4096 text a ks order;
    is_words = words;
    good_gates = λ g m. rw (← same) (gates-good 4096 again b g m);
    found = found-is;
  }
