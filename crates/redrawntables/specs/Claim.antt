-- What is claimed of a table and the same with polygon lines redrawn (02: "membership and the rim bit of every event are the same").
use Rattle.std.specs.Prelude.{◌≡◌, List, map, ℕ, ◌<◌, ℤ, length}
use Rattle.plans.specs.Refusals.{passed}
use Rattle.counter.specs.Judging.{Judgement, judge_of}
use Rattle.gates.specs.Gate.{Name, Event, Region, regions}
use Rattle.tables.specs.Table.{◌∈◌, nth_region, names, number_of}
use Rattle.tables.specs.Head.{dimensions, gates}
use Rattle.tables.specs.Members.{member, unclaimed}
use Rattle.tables.specs.Outlines.{outline_member}
use Rattle.tables.specs.Refusals.{table_verdict}
use Rattle.tables.specs.Compile.{plan_of}
use Rattle.tables.specs.TableCount.{TableCounting, count_table_of}
use Rattle.tables.specs.Demand.{count_of_name}
use Rattle.tables.specs.Judging.{bit_of_name}

-- two answers of counting by a table, without the slice, in which the one plan or the other may stand
pub record SameCounting (c d : TableCounting) : Type 0 where
  pub verdict : d.verdict ≡ c.verdict
  pub words : d.words ≡ c.words
  pub regions : d.regions ≡ c.regions
  pub tally : d.tally ≡ c.tally

-- ---- text is the accepted table, again the same with polygon lines redrawn
pub record SameByTable (text again : List ℕ) : Type 0 where
  -- accepted with the same slices, and with others refused alike
  pub accepted : (slice : ℕ) → table_verdict slice again ≡ table_verdict slice text
  -- the same dimensions; regions of the same names and parents in the same order, so each at the same number
  pub dimensions_same : dimensions again ≡ dimensions text
  pub names_same : names (regions (gates again)) ≡ names (regions (gates text))
  pub parents_same : map (λ (r : Region). r.parent) (regions (gates again)) ≡ map (λ (r : Region). r.parent) (regions (gates text))
  -- by the lines: every event is a member by the same names, on the outline by the same names, and in no region where it was in none
  pub members : (e : Event) (n : Name) → member (gates again) e n ≡ member (gates text) e n
  pub outlines : (e : Event) (n : Name) → outline_member (gates again) e n ≡ outline_member (gates text) e n
  pub unclaimed_same : (e : Event) → unclaimed (gates again) e ≡ unclaimed (gates text) e
  -- by the plan: judging says the same of every event, refusals and both sets of bits
  pub judged : (event : List ℤ) → judge_of (plan_of again) event ≡ judge_of (plan_of text) event
  -- compiling into a slice in which the plan fits and counting a list, with any column line: the same refusal, or the same tally of as many words and regions
  pub counted : (columns : List ℕ) (slice values : List ℤ) → table_verdict (length slice) text ≡ passed
      → SameCounting (count_table_of text columns slice values) (count_table_of again columns slice values)

-- ---- text is the accepted table, again the same with polygon lines redrawn and then the gate lines in another order

-- each region of text is found in again by its name, at one of the 64 numbers
abbrev pub FoundByName : List ℕ → List ℕ → Type 0
FoundByName text again =
    (r : Region) → r ∈ regions (gates text)
    → (number_of (regions (gates again)) r.name < 64) × ((nth_region (regions (gates again)) (number_of (regions (gates again)) r.name)).name ≡ r.name)

-- the same tally, each count found by its region's name: c is what counting by text gave, d what counting by again gave
pub record SameTally (text again : List ℕ) (c d : TableCounting) : Type 0 where
  pub unrefused : (c.verdict ≡ passed) × (d.verdict ≡ passed)
  pub taken : d.tally.taken ≡ c.tally.taken
  pub spoilt : d.tally.spoilt ≡ c.tally.spoilt
  pub unclaimed_same : d.tally.unclaimed ≡ c.tally.unclaimed
  pub found : FoundByName text again
  pub by_name : (r : Region) → r ∈ regions (gates text) → count_of_name again d.tally r.name ≡ count_of_name text c.tally r.name

-- the same judgement of an event, each bit found by its region's name: j is that by the plan of text, k that by the plan of again
pub record SameJudgement (text again : List ℕ) (j k : Judgement) : Type 0 where
  pub verdict : k.verdict ≡ j.verdict
  pub found : FoundByName text again
  pub member_bit : (r : Region) → r ∈ regions (gates text) → bit_of_name again k.bits r.name ≡ bit_of_name text j.bits r.name
  pub outline_bit : (r : Region) → r ∈ regions (gates text) → bit_of_name again k.outline r.name ≡ bit_of_name text j.outline r.name
