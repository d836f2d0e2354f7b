-- The numbers of a sheet by the table's own lines: in every order of its gate lines they are how many events are members, taken, unclaimed or spoilt.
use mathlib.Core.Path.{◌≡◌, refl, sym, ap, ap₂, ◌∙◌}
use mathlib.Core.Option.{Option, none, some}
use mathlib.Core.List.Memᴰ
use mathlib.Core.List.Memᴰ.{head as here}
use mathlib.Core.List.{List, [], ◌∷◌, ◌++◌}
use Prim.Native.Nat.{ℕ, ◌<◌}
use lib.IntN.{ℤ, pos}
use lib.ListN.{length, replicate, length-replicate}
use Rattle.plans.specs.Indices.{how_many}
use Rattle.plans.specs.Refusals.{passed}
use Rattle.counter.specs.declared.Tally.{Tally}
use Rattle.counter.specs.Counting.{event_at, taken_at, spoilt_at, Counting, count_of}
use Rattle.tallies.specs.Sums.{total}
use Rattle.gates.specs.Gate.{Name, Region, regions}
use Rattle.tables.specs.Table.{◌∈◌, names, number_of, parent_names, operand_names, sum_of, nth_region}
use Rattle.tables.specs.Head.{dimensions, gates, LineOrder, reordered}
use Rattle.tables.specs.Members.{member, unclaimed}
use Rattle.tables.specs.Refusals.{table_verdict}
use Rattle.tables.specs.Compile.{plan_of}
use Rattle.tables.specs.Columns.{right_line}
use Rattle.tables.specs.TableCount.{count_table_of}
use Rattle.tables.specs.Demand.{dims, event_count, count_of_parent, Demand3}
use Rattle.tables.proofs.ListLaws.{map_in, map-from}
use Rattle.tables.proofs.GateLaws.{orderly}
use Rattle.tables.proofs.Acceptance.{accepted-passed}
use Rattle.tables.proofs.OrderedAgain.{OrderedAgain, ordered-again}
use Rattle.tables.proofs.ColumnTheorems.{right-line-is}
use Rattle.tables.proofs.Demand.{demand_3}
use Rattle.sheet.specs.Sheet.{with_sum, count_in, region_numbers, list_tallies}
use Rattle.sheet.proofs.ListLaws.{Complete, taken-adds, unclaimed-adds, spoilt-adds, count-adds, Known, all_listed, number-summed, number-listed}

-- ---- by the table's own lines

-- the events of a list that are members of the region of a name, by the table's own lines; those taken; those unclaimed; those spoilt; those in a parent
module _ (text : List ℕ) where
  abbrev pub members_in : Name → List ℤ → ℕ
  members_in name vs = how_many (λ j. member (gates text) (event_at (dims text) vs j) name) (event_count text vs)

  abbrev pub taken_in : List ℤ → ℕ
  taken_in vs = how_many (taken_at (dims text) vs) (event_count text vs)

  abbrev pub unclaimed_in : List ℤ → ℕ
  unclaimed_in vs = how_many (λ j. unclaimed (gates text) (event_at (dims text) vs j)) (event_count text vs)

  abbrev pub spoilt_in : List ℤ → ℕ
  spoilt_in vs = how_many (spoilt_at (dims text) vs) (event_count text vs)

  abbrev pub parent_in : Option Name → List ℤ → ℕ
  parent_in none = taken_in
  parent_in (some name) = members_in name

-- the numbers of a region by the table's own lines
abbrev pub region_by : List ℕ → List (List ℤ) → Region → List ℕ
region_by text lists r =
    all_listed (members_in text r.name) lists ++ (sum_of (members_in text r.name) lists ∷ sum_of (parent_in text r.parent) lists ∷ [])

-- ---- the steps, for one text, order and lists

module _ (text : List ℕ) (accepted : table_verdict 4096 text ≡ passed) (ks : List (List ℕ)) (order : LineOrder text ks)
    (again : List ℕ) (e : again ≡ reordered text ks) (lists : List (List ℤ)) (complete : Complete (length (dimensions text)) lists)
    (slice : List ℤ) (room : length slice ≡ 4096) where
  -- both are accepted, and demand 3 holds for each list
  both : OrderedAgain text again
  both = rw e (ordered-again text accepted ks order)

  kept : (vs : List ℤ) → vs ∈ lists → Demand3 text again vs (count_table_of again (right_line text) slice vs)
  kept vs m = demand_3 again (right_line text) slice vs text accepted ks order e (right-line-is 4096 text accepted) room (complete vs m)

  its_tally : (vs : List ℤ) → vs ∈ lists → (count_of (plan_of again) vs).tally ≡ (count_table_of again (right_line text) slice vs).tally
  its_tally vs m =
      let d = kept vs m in
      ap (λ (p : List ℤ). (count_of p vs).tally) (sym d.its_plan) ∙ ap (λ (c : Counting). c.tally) d.counting

  taken-known : Known again lists (λ t. t.taken) (taken_in text)
  taken-known = record { adds = taken-adds; each = λ vs m. ap (λ (t : Tally). t.taken) (its_tally vs m) ∙ (kept vs m).all_taken }

  unclaimed-known : Known again lists (λ t. t.unclaimed) (unclaimed_in text)
  unclaimed-known = record { adds = unclaimed-adds; each = λ vs m. ap (λ (t : Tally). t.unclaimed) (its_tally vs m) ∙ (kept vs m).all_unclaimed }

  spoilt-known : Known again lists (λ t. t.spoilt) (spoilt_in text)
  spoilt-known = record { adds = spoilt-adds; each = λ vs m. ap (λ (t : Tally). t.spoilt) (its_tally vs m) ∙ (kept vs m).all_spoilt }

  count-known : (k : Name) → k ∈ names (regions (gates text)) → Known again lists (count_in (number_of (regions (gates again)) k)) (members_in text k)
  count-known k i =
      let number = number_of (regions (gates again)) k in
      let r = map-from (λ (x : Region). x.name) (regions (gates text)) i in
      record {
        adds = count-adds number (rw r.2 (both.found r.0 r.1).0);
        each = λ vs m. ap (count_in number) (its_tally vs m) ∙ rw r.2 ((kept vs m).by_name r.0 r.1);
      }

  parent_is : (o : Option Name) → ((k : Name) → k ∈ parent_names o → k ∈ names (regions (gates text)))
      → count_of_parent again (total (list_tallies again lists)) o ≡ sum_of (parent_in text o) lists
  parent_is none h = number-summed taken-known
  parent_is (some k) h = number-summed (count-known k (h k (here refl)))

  -- a parent is a region by its name
  region-is : (r : Region) → r ∈ regions (gates text)
      → region_numbers again (list_tallies again lists) (number_of (regions (gates again)) r.name) ≡ region_by text lists r
  unfolding region_numbers
  region-is r m =
      let known = count-known r.name (map_in (λ (x : Region). x.name) m) in
      let live = (orderly (gates text) both.first.rules).live r m in
      let parent = ap (λ (x : Region). count_of_parent again (total (list_tallies again lists)) x.parent) (both.found r m).1 in
      ap₂ ◌++◌ (number-listed known)
      (ap₂ (λ (a b : ℕ). a ∷ b ∷ []) (number-summed known)
      (parent ∙ parent_is r.parent (λ k j. live k (Memᴰ.append_left (operand_names r.shape) j))))

-- ---- the law

-- what the sheet of again has, by the lines of text
pub record NumbersBy (text again : List ℕ) (lists : List (List ℤ)) : Type 0 where
  pub compiles : table_verdict 4096 again ≡ passed
  pub same_n : length (dimensions again) ≡ length (dimensions text)
  pub found : (r : Region) → r ∈ regions (gates text)
      → (number_of (regions (gates again)) r.name < 64) × (nth_region (regions (gates again)) (number_of (regions (gates again)) r.name) ≡ r)
  pub region_listed : (r : Region) → r ∈ regions (gates text)
      → region_numbers again (list_tallies again lists) (number_of (regions (gates again)) r.name) ≡ region_by text lists r
  pub taken_listed : with_sum (λ t. t.taken) (list_tallies again lists) ≡ all_listed (taken_in text) lists
  pub unclaimed_listed : with_sum (λ t. t.unclaimed) (list_tallies again lists) ≡ all_listed (unclaimed_in text) lists
  pub spoilt_listed : with_sum (λ t. t.spoilt) (list_tallies again lists) ≡ all_listed (spoilt_in text) lists

pub numbers_by_lem : (text : List ℕ) → table_verdict 4096 text ≡ passed → (ks : List (List ℕ)) → LineOrder text ks
    → (again : List ℕ) → again ≡ reordered text ks
    → (lists : List (List ℤ)) → Complete (length (dimensions text)) lists → NumbersBy text again lists
numbers_by_lem text accepted ks order again e lists complete =
    let slice : List ℤ = replicate 4096 (pos 0) in
    let room : length slice ≡ 4096 = length-replicate {A = ℤ} 4096 (pos 0) in
    let ordered = both text accepted ks order again e lists complete slice room in
    record {
      compiles = accepted-passed 4096 again ordered.second;
      same_n = ordered.same_n;
      found = ordered.found;
      region_listed = region-is text accepted ks order again e lists complete slice room;
      taken_listed = number-listed (taken-known text accepted ks order again e lists complete slice room);
      unclaimed_listed = number-listed (unclaimed-known text accepted ks order again e lists complete slice room);
      spoilt_listed = number-listed (spoilt-known text accepted ks order again e lists complete slice room);
    }
