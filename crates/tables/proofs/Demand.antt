-- Demand 3, whole: one theorem about a table, an order of its gate lines, a column line, a slice and a list of events. Its claim stands in specs/Demand.
use mathlib.Core.Path.{◌≡◌, refl, sym, ap, ◌∙◌}
use mathlib.Core.Bool.{true}
use mathlib.Core.Option.{Option, none, some}
use mathlib.Core.List.Memᴰ
use mathlib.Core.List.Memᴰ.{head as here}
use mathlib.Core.List.{List}
use Prim.Native.Nat.{ℕ, ◌%◌}
use native.Mathlib.Omega.{arith}
use lib.IntN.{ℤ}
use lib.ListN.{length, get_or}
use Rattle.plans.specs.Indices.{how_many}
use Rattle.plans.specs.Refusals.{passed}
use Rattle.plans.specs.Form.{width, check_of}
use Rattle.counter.specs.Counting.{event_at, taken_at, spoilt_at, tally_of, Counting, count_of}
use Rattle.counter.specs.declared.Tally.{Tally}
use Rattle.gates.specs.Gate.{Name, Quadrant, quad, Gate, Region, regions}
use Rattle.gates.proofs.GoodGate.{GoodBody}
use Rattle.tables.specs.Table.{◌∈◌, names, number_of, parent_names, body_references, sum_of}
use Rattle.tables.specs.Head.{gates, LineOrder, reordered}
use Rattle.tables.specs.Members.{member, unclaimed}
use Rattle.tables.specs.Steps.{plan_words}
use Rattle.tables.specs.Refusals.{table_verdict}
use Rattle.tables.specs.Compile.{plan_of, Compiling, compile_of}
use Rattle.tables.specs.Columns.{is_right}
use Rattle.tables.specs.TableCount.{lent, count_table_of}
use Rattle.tables.specs.Demand.{dims, event_count, count_of_name, count_of_parent, Demand3, KeepsDemand3}
use Rattle.tables.proofs.ListLaws.{map_in}
use Rattle.tables.proofs.SumLaws.{sum_same}
use Rattle.tables.proofs.GateLaws.{moved-name}
use Rattle.tables.proofs.Acceptance.{accepted-passed}
use Rattle.tables.proofs.OrderedAgain.{OrderedAgain, ordered-again}
use Rattle.tables.proofs.CountLaws.{plan-width, counted, tally-taken, tally-spoilt, count_by_name, tally-unclaimed, in_parent_of, quadrant-name, quadrants_add_up}
use Rattle.tables.proofs.CompileLaws.{compiled-plan, gates-good, plan-passes}
use Rattle.tables.proofs.ColumnTheorems.{right_in_any-order}
use Rattle.tables.proofs.TableCountLaws.{complete-counted}

-- ---- the steps, for one text, order, slice and list

module _ (text : List ℕ) (accepted : table_verdict 4096 text ≡ passed) (ks : List (List ℕ)) (order : LineOrder text ks)
    (columns : List ℕ) (right : is_right text columns ≡ true) (slice values : List ℤ) (room : length slice ≡ 4096)
    (complete : length values % dims text ≡ 0) where
  abbrev again : List ℕ
  again = reordered text ks

  -- what compiling gives
  abbrev into : Compiling
  into = compile_of again slice

  -- the one tally of the list by the words lent
  abbrev tally : Tally
  tally = (count_of (lent into.words into.slice) values).tally

  abbrev n : ℕ
  n = dims text

  abbrev t : List Gate
  t = gates text

  abbrev u : List Gate
  u = gates again

  -- both texts are accepted, with the same dimensions and, in another order, the same gates
  both : OrderedAgain text again
  both = ordered-again text accepted ks order

  -- the words lent are the plan, which passes
  verdict-again : table_verdict (length slice) again ≡ passed
  verdict-again = rw room (accepted-passed 4096 again both.second)

  is-plan : lent into.words into.slice ≡ plan_of again
  is-plan = let f = both.second.plan_fits in compiled-plan again slice verdict-again (omega arith)

  is-passing : check_of (lent into.words into.slice) ≡ passed
  is-passing = rw is-plan (plan-passes 4096 again both.second)

  -- the plan's words
  abbrev p : List ℤ
  p = plan_words n (regions u)

  words-pass : check_of p ≡ passed
  words-pass = rw (← both.is_words, ← is-plan) is-passing

  -- the tally is that of the plan's words
  is-counting : count_of (lent into.words into.slice) values ≡ record { verdict = passed; tally = tally_of p values (event_count text values) }
  is-counting =
      let w = plan-width n (regions u) in
      let k : length values % width p ≡ 0 = rw w complete in
      rw (is-plan, both.is_words) (counted p values words-pass k ∙ rw w)

  is-tally : tally ≡ tally_of p values (event_count text values)
  is-tally = ap (λ (c : Counting). c.tally) is-counting

  count-is : (k : Name) → k ∈ names (regions t) → count_of_name again tally k ≡ how_many (λ j. member t (event_at n values j) k) (event_count text values)
  count-is k m =
      ap (λ (y : Tally). get_or y.counts (number_of (regions u) k) 0) is-tally
      ∙ count_by_name t u both.moved both.first.rules n both.some_values both.good_gates values k (moved-name both.moved m)

  taken_is : tally.taken ≡ how_many (taken_at n values) (event_count text values)
  taken_is = ap (λ (y : Tally). y.taken) is-tally ∙ tally-taken n (regions u) values (event_count text values)

  spoilt-is : tally.spoilt ≡ how_many (spoilt_at n values) (event_count text values)
  spoilt-is = ap (λ (y : Tally). y.spoilt) is-tally ∙ tally-spoilt n (regions u) values (event_count text values)

  unclaimed-is : tally.unclaimed ≡ how_many (λ j. unclaimed t (event_at n values j)) (event_count text values)
  unclaimed-is =
      ap (λ (y : Tally). y.unclaimed) is-tally
      ∙ tally-unclaimed t u both.moved both.first.rules n both.some_values both.good_gates words-pass values

  parent_is : (o : Option Name) → ((k : Name) → k ∈ parent_names o → k ∈ names (regions t))
      → how_many (λ j. in_parent_of t o (event_at n values j)) (event_count text values) ≡ count_of_parent again tally o
  unfolding taken_at
  parent_is none h = sym taken_is
  parent_is (some k) h = sym (count-is k (h k (here refl)))

  quadrants_are : (g : Gate) → g ∈ t → (qs : List Quadrant) → g.body ≡ quad qs
      → sum_of (λ (q : Quadrant). count_of_name again tally q.name) qs ≡ count_of_parent again tally g.parent
  quadrants_are g m qs e =
      let good : GoodBody n (quad qs) = rw e at (gates-good 4096 text both.first g m) in
      sum_same _ _ qs (λ q k. count-is q.name (quadrant-name t both.first.rules n both.some_values g m qs e good q k))
      ∙ quadrants_add_up t both.first.rules n both.some_values g m qs e good values
      ∙ parent_is g.parent (λ k i. both.first.rules.alive g m k (Memᴰ.append_left (body_references g.body) i))

  whole : Demand3 text again values (record { verdict = passed; words = into.words; regions = into.regions; tally = tally; slice = into.slice })
  whole = record {
    compiles = accepted-passed 4096 again both.second;
    unrefused = refl;
    its_plan = is-plan;
    passing = is-passing;
    counting = is-counting ∙ ap (λ (y : Tally). record { verdict = passed; tally = y }) (sym is-tally);
    found = both.found;
    by_name = λ r m. count-is r.name (map_in (λ (x : Region). x.name) m);
    all_taken = taken_is;
    all_spoilt = spoilt-is;
    all_unclaimed = unclaimed-is;
    quadrants = quadrants_are;
  }

  is-counted : count_table_of again columns slice values
      ≡ record { verdict = passed; words = into.words; regions = into.regions; tally = tally; slice = into.slice }
  is-counted =
      complete-counted again columns slice values verdict-again (right_in_any-order 4096 text accepted ks order columns ∙ right) (rw both.same_n complete)

  kept : Demand3 text again values (count_table_of again columns slice values)
  kept = rw is-counted whole

-- ---- the theorem

pub demand_3 : (again columns : List ℕ) (slice values : List ℤ) → KeepsDemand3 again columns slice values (count_table_of again columns slice values)
demand_3 again columns slice values text accepted ks order e right room complete =
    rw e (kept text accepted ks order columns right slice values room complete)
