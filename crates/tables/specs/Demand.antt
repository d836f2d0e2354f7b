-- Demand 3, whole: what is claimed of a table, an order of its gate lines, a list of events, and what compiling and counting gave.
use Rattle.std.specs.Prelude.{◌≡◌, true, List, ℕ, ◌/◌, ◌%◌, ◌<◌, ℤ, length, get_or}
use Rattle.std.proofs.Math.Option.{Option, none, some}
use Rattle.plans.specs.Indices.{how_many}
use Rattle.plans.specs.Refusals.{passed}
use Rattle.plans.specs.Form.{Float, today, check_for}
use Rattle.counter.specs.Counting.{event_at, taken_at, spoilt_at, count_for}
use Rattle.counter.specs.declared.Tally.{Tally}
use Rattle.gates.specs.Gate.{Name, Quadrant, quad, Gate, Region, regions}
use Rattle.tables.specs.Table.{◌∈◌, nth_region, number_of, sum_of}
use Rattle.tables.specs.Head.{dimensions, gates, LineOrder, reordered}
use Rattle.tables.specs.Members.{member, unclaimed}
use Rattle.tables.specs.Refusals.{table_verdict}
use Rattle.tables.specs.Compile.{plan_of}
use Rattle.tables.specs.Columns.{is_right}
use Rattle.tables.specs.TableCount.{TableCounting, lent}

-- the number of dimensions, and of events listed
abbrev pub dims : List ℕ → ℕ
dims text = length (dimensions text)

abbrev pub event_count : List ℕ → List ℤ → ℕ
event_count text values = length values / dims text

-- the count at the number that the reordered table gives the region of that name
abbrev pub count_of_name : List ℕ → Tally → Name → ℕ
count_of_name again tally name = get_or tally.counts (number_of (regions (gates again)) name) 0

-- the parent's count or, without a parent, the number of events taken
abbrev pub count_of_parent : List ℕ → Tally → Option Name → ℕ
count_of_parent again tally none = tally.taken
count_of_parent again tally (some name) = count_of_name again tally name

-- text is the accepted table, again the same with its gate lines in another order, values the list; c is what compiling again into a slice
-- of 4,096 words and counting the list by the words reported gave; f is the float that counts
pub record Demand3For (f : Float) (text again : List ℕ) (values : List ℤ) (c : TableCounting) : Type 0 where
  -- the reordered table compiles, nothing is refused, and the words reported written are its plan
  pub compiles : table_verdict 4096 again ≡ passed
  pub unrefused : c.verdict ≡ passed
  pub its_plan : lent c.words c.slice ≡ plan_of again
  -- that plan passes, and counting by it is not refused and gives the tally
  pub passing : check_for f (lent c.words c.slice) ≡ passed
  pub counting : count_for f (lent c.words c.slice) values ≡ record { verdict = passed; tally = c.tally }
  -- the number at which a region is found by its name is one of the 64, and its own in the reordered table
  pub found : (r : Region) → r ∈ regions (gates text)
      → (number_of (regions (gates again)) r.name < 64) × (nth_region (regions (gates again)) (number_of (regions (gates again)) r.name) ≡ r)
  -- each region, found by its name, has the number of listed events that are its members by the accepted table's own lines
  pub by_name : (r : Region) → r ∈ regions (gates text)
      → count_of_name again c.tally r.name ≡ how_many (λ j. member (gates text) (event_at (dims text) values j) r.name) (event_count text values)
  -- the numbers of listed events that are taken and that are spoilt
  pub all_taken : c.tally.taken ≡ how_many (taken_at (dims text) values) (event_count text values)
  pub all_spoilt : c.tally.spoilt ≡ how_many (spoilt_at (dims text) values) (event_count text values)
  -- the number of listed events that are taken and, by the accepted table's own lines, members of no region
  pub all_unclaimed : c.tally.unclaimed ≡ how_many (λ j. unclaimed (gates text) (event_at (dims text) values j)) (event_count text values)
  -- the counts of a quadrant gate's quadrants add up
  pub quadrants : (g : Gate) → g ∈ gates text → (qs : List Quadrant) → g.body ≡ quad qs
      → sum_of (λ (q : Quadrant). count_of_name again c.tally q.name) qs ≡ count_of_parent again c.tally g.parent

-- the same for the floats of today
abbrev pub Demand3 : List ℕ → List ℕ → List ℤ → TableCounting → Type 0
Demand3 = Demand3For today

-- the claim, of every accepted table of which again is an order, the right column line, every slice of 4,096 words and every list of complete events
abbrev pub KeepsDemand3 : List ℕ → List ℕ → List ℤ → List ℤ → TableCounting → Type 0
KeepsDemand3 again columns slice values c =
    (text : List ℕ) → table_verdict 4096 text ≡ passed → (ks : List (List ℕ)) → LineOrder text ks → again ≡ reordered text ks
    → is_right text columns ≡ true → length slice ≡ 4096 → length values % dims text ≡ 0 → Demand3 text again values c
