-- `names_refusal` meets its contract: the first refusal that is found is the verdict's.
use Rattle.std.proofs.Common.{◌≡◌, ◌≤◌, ℕ, ◌-◌, List, length, min, refl, sym, ap, ◌∙◌}
use Rattle.plans.specs.Refusals.{Verdict}
use Rattle.tables.specs.Head.{gate_lines, gates}
use Rattle.resolve.specs.Inner.Reading.{starts_of, gate_count}
use Rattle.resolve.proofs.StartLaws.{Indexed, places}
use Rattle.tablecheck.specs.Inner.Names.{GoodLines}
use Rattle.tablecheck.specs.Inner.TextVerdict.{names_verdict}
use Rattle.tablecheck.proofs.FoundLaws.{below_some, below_none}
use Rattle.tablecheck.proofs.NamesLaws.{count-read, few, most, crowded_refused, repeated-refused, dead_refused, circled_refused, none-refused}
use Rattle.tablecheck.proofs.names.names_refusal.Goals as goal
use Rattle.tablecheck.proofs.names.names_refusal.Goals.{After-up_to-table}

-- what is known of the table
module _ (b : After-up_to-table) where
  abbrev text : List ℕ
  text = b.up_to-table.result.text.now

  abbrev starts : List ℕ
  starts = b.up_to-table.result.starts

  abbrev n : ℕ
  n = b.up_to-table.result.gates

  same-text : text ≡ b.args.text.now
  same-text = b.up_to-table.ensures.text ∙ b.new.ensures.text

  good : GoodLines text
  good = rw same-text b.requires

  indexed : Indexed text starts
  indexed = places text (b.up_to-table.ensures.starts ∙ b.new.ensures.starts ∙ ap starts_of (sym same-text))

  read : n ≡ min (length (gate_lines text)) 65
  read =
      count-read text (b.up_to-table.ensures.gates ∙ ap (λ (k : ℕ). min k 65) (b.new.ensures.gates ∙ ap (λ (s : List ℕ). gate_count s) (sym same-text)))

  said : {r : Verdict} (v : Verdict) → r ≡ names_verdict (gates text) v → r ≡ names_verdict (gates b.args.text.now) v
  said v q = q ∙ ap (λ (s : List ℕ). names_verdict (gates s) v) same-text

pub returns-in-Some : goal.returns-in-Some
returns-in-Some c =
    let b = (goal.at.returns-in-Some c).After-up_to-table in
    let found = below_some (n b) (sym c.in-Some.is ∙ c.first_crowded.ensures) in
    λ v. said b v (crowded_refused (text b) (starts b) (indexed b) (good b) (read b) found.0 found.1 v)

pub returns-in-Some-first_repeated : goal.returns-in-Some-first_repeated
returns-in-Some-first_repeated c =
    let b = (goal.at.returns-in-Some-first_repeated c).After-up_to-table in
    let past-0 = below_none (n b) (sym c.in_default.is ∙ c.first_crowded.ensures) in
    let found = below_some (n b) (sym c.in-Some-first_repeated.is ∙ c.first_repeated.ensures) in
    λ v. said b v (repeated-refused (text b) (starts b) (indexed b) (good b) (read b) refl past-0 found.0 found.1 v)

pub first_dead-requires : goal.first_dead-requires
first_dead-requires c =
    let b = (goal.at.first_dead-requires c).After-up_to-table in
    let past-0 = below_none (n b) (sym c.in_default.is ∙ c.first_crowded.ensures) in
    few (text b) (starts b) (indexed b) (good b) (read b) refl past-0

pub returns-in-Some-first_dead : goal.returns-in-Some-first_dead
returns-in-Some-first_dead c =
    let b = (goal.at.returns-in-Some-first_dead c).After-up_to-table in
    let past-0 = below_none (n b) (sym c.in_default.is ∙ c.first_crowded.ensures) in
    let past-1 = below_none (n b) (sym c.in_default-first_repeated.is ∙ c.first_repeated.ensures) in
    let found = below_some (n b) (sym c.in-Some-first_dead.is ∙ c.first_dead.ensures) in
    λ v. said b v (dead_refused (text b) (starts b) (indexed b) (good b) (read b) refl past-0 refl past-1 found.0 found.1 v)

pub first_circled-requires : goal.first_circled-requires
first_circled-requires c =
    let b = (goal.at.first_circled-requires c).After-up_to-table in
    let past-0 = below_none (n b) (sym c.in_default.is ∙ c.first_crowded.ensures) in
    most (text b) (starts b) (indexed b) (good b) (read b) refl past-0

pub returns-in-Some-first_circled : goal.returns-in-Some-first_circled
returns-in-Some-first_circled c =
    let b = (goal.at.returns-in-Some-first_circled c).After-up_to-table in
    let past-0 = below_none (n b) (sym c.in_default.is ∙ c.first_crowded.ensures) in
    let past-1 = below_none (n b) (sym c.in_default-first_repeated.is ∙ c.first_repeated.ensures) in
    let past-2 = below_none (n b) (sym c.in_default-first_dead.is ∙ c.first_dead.ensures) in
    let found = below_some (n b) (sym c.in-Some-first_circled.is ∙ c.first_circled.ensures) in
    λ v. said b v (circled_refused (text b) (starts b) (indexed b) (good b) (read b) refl past-0 refl past-1 refl past-2 found.0 found.1 v)

pub returns : goal.returns
returns c =
    let b = (goal.at.returns c).After-up_to-table in
    let past-0 = below_none (n b) (sym c.in_default.is ∙ c.first_crowded.ensures) in
    let past-1 = below_none (n b) (sym c.in_default-first_repeated.is ∙ c.first_repeated.ensures) in
    let past-2 = below_none (n b) (sym c.in_default-first_dead.is ∙ c.first_dead.ensures) in
    let past-3 = below_none (n b) (sym c.in_default-first_circled.is ∙ c.first_circled.ensures) in
    λ v. said b v (none-refused (text b) (starts b) (indexed b) (good b) (read b) refl past-0 refl past-1 refl past-2 refl past-3 v)
