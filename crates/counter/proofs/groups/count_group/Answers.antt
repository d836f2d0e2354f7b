-- `count_group`: the tally is that of the events before the e-th of the group.
use mathlib.Core.Path.{◌≡◌, sym, ◌∙◌}
use mathlib.Core.Bool.{true, false}
use mathlib.Core.List.{List}
use Prim.Native.Nat.{ℕ, ◌≤◌, ◌<◌, ◌-◌, ◌*◌, ◌/◌, ◌+◌, ◌^◌}
use native.Mathlib.Omega.{arith}
use native.Mathlib.Nat.{add-zero}
use lib.IntN.{ℤ}
use lib.ListN.{length, get_or, take, drop}
use Rattle.plans.specs.Words.{part}
use Rattle.plans.specs.Bits.{has_bit}
use Rattle.plans.specs.Form.{step_count}
use Rattle.counter.specs.Counting.{tally_of}
use Rattle.counter.specs.Inner.Groups.{in_set}
use Rattle.counter.specs.declared.Tally.{Tally}
use Rattle.counter.proofs.SoundLaws.{passing}
use Rattle.counter.proofs.TableLaws.{plus-odd}
use Rattle.counter.proofs.TallyLaws.{with_taken, with_spoilt, taken-small, spoilt-small, unclaimed-small, counts-small, counts-long}
use Rattle.counter.proofs.GroupLaws.{group-is, candidates, one-taken, one-spoilt, sets-low}
use Rattle.counter.proofs.groups.count_group.Goals as goal
use Rattle.counter.proofs.groups.count_group.Goals.{then-bit_in, else-bit_in, After-number_in-steps, In-loop-e, Start}

-- the group as the code takes it: the g events from the j-th on
module _ (entry : Start) where
  abbrev plan : List ℤ
  plan = entry.args.plan.now

  abbrev events : List ℤ
  events = entry.args.events.now

  abbrev n : ℕ
  n = entry.args.n

  abbrev j : ℕ
  j = entry.args.j

  abbrev g : ℕ
  g = entry.args.g

  abbrev group : List ℤ
  group = take (j * n + g * n - j * n) (drop (j * n) events)

  group-part : group ≡ part events (j * n) (g * n)
  group-part = group-is n events j g entry.requires.4

pub sets_of-sets-requires : goal.sets_of-sets-requires
sets_of-sets-requires c =
    let entry = (goal.at.sets_of-sets-requires c).Start in
    (c.requires.0, c.requires.1, candidates (n entry) (group entry) (g entry) c.requires.3 (omega arith) c.taken_of-taken.ensures)

pub number_in-steps-requires : goal.number_in-steps-requires
unfolding step_count
number_in-steps-requires c =
    let w = passing (plan (goal.at.number_in-steps-requires c).Start) c.requires.0 in
    (omega arith, omega arith)

pub loop-e-init : goal.loop-e-init
loop-e-init c =
    rw (add-zero (j (goal.at.loop-e-init c).Start)) c.requires.2

-- the number of steps is read
module _ (after-number-in : After-number_in-steps) where
  abbrev start : Start
  start = after-number-in.before.before.before.before

  steps_are : after-number-in.number_in-steps.result ≡ step_count (plan start)
  unfolding step_count
  steps_are = after-number-in.number_in-steps.ensures

  steps-few : after-number-in.number_in-steps.result ≤ 64
  steps-few = rw steps_are (passing (plan start) after-number-in.requires.0).few

pub in_none-unclaimed-requires : goal.in_none-unclaimed-requires
in_none-unclaimed-requires c = (c.sets_of-sets.ensures.long, steps-few (goal.at.in_none-unclaimed-requires c).After-number_in-steps)

-- in the loop: there is room for one event more in the tally, and what it is then
module _ (in-loop : In-loop-e) where
  abbrev after-number-in : After-number_in-steps
  after-number-in = in-loop.before.before.before.before

  abbrev entry : Start
  entry = in-loop.before.before.before.before.before.before.before.before

  abbrev taken : ℕ
  taken = in-loop.taken_of-taken.result

  abbrev sets : List ℕ
  sets = in-loop.sets_of-sets.result

  abbrev unclaimed : ℕ
  unclaimed = in-loop.in_none-unclaimed.result

  abbrev t : Tally
  t = in-loop.loop-e.t

  abbrev e : ℕ
  e = in-loop.loop-e.e

  tally-is : t ≡ tally_of (plan entry) (events entry) (j entry + e)
  tally-is = in-loop.loop-e.invariant

  low : e < 64
  low = omega arith

  few : j entry + e < 2 ^ 62
  few = omega arith

  long : length t.counts ≡ 64
  long = rw tally-is (counts-long (plan entry) (events entry) (j entry + e))

  room : (r : ℕ) → r < 64 → get_or t.counts r 0 < 2 ^ 63
  room = rw tally-is (counts-small (plan entry) (events entry) (j entry + e) few)

  room-taken : t.taken < 2 ^ 63
  room-taken = rw tally-is (taken-small (plan entry) (events entry) (j entry + e) few)

  room-spoilt : t.spoilt < 2 ^ 63
  room-spoilt = rw tally-is (spoilt-small (plan entry) (events entry) (j entry + e) few)

  room-unclaimed : t.unclaimed < 2 ^ 63
  room-unclaimed = rw tally-is (unclaimed-small (plan entry) (events entry) (j entry + e) few)

  more-taken : {u : Tally} → has_bit taken e ≡ true → u ≡ with_taken t (in_set sets e) (has_bit unclaimed e)
      → u ≡ tally_of (plan entry) (events entry) (j entry + (e + 1))
  more-taken =
      one-taken (plan entry) (events entry) in-loop.requires.1 (j entry) (g entry) (group-part entry) in-loop.taken_of-taken.ensures
      e low in-loop.loop-e-test.true tally-is in-loop.requires.0 (steps_are after-number-in) (steps-few after-number-in)
      in-loop.sets_of-sets.ensures in-loop.in_none-unclaimed.ensures

  more-spoilt : {u : Tally} → has_bit taken e ≡ false → u ≡ with_spoilt t → u ≡ tally_of (plan entry) (events entry) (j entry + (e + 1))
  more-spoilt =
      one-spoilt (plan entry) (events entry) in-loop.requires.1 (j entry) (g entry) (group-part entry) in-loop.taken_of-taken.ensures
      e low in-loop.loop-e-test.true tally-is

pub bump-requires : goal.bump-requires
bump-requires c =
    let after-number_in-steps = (goal.at.bump-requires c).After-number_in-steps in
    let in-loop-e = (goal.at.bump-requires c).In-loop-e in
    let entry = (goal.at.bump-requires c).Start in
    let m = steps_are after-number_in-steps in
    let sorted = c.sets_of-sets.ensures in (
      long in-loop-e,
      sorted.long,
      room in-loop-e,
      steps-few after-number_in-steps,
      low in-loop-e,
      λ r l k. sets-low (plan entry) (n entry) (group entry) c.requires.0 sorted (e in-loop-e) (low in-loop-e) r (omega arith) k,
    )

pub overflow_add-t : goal.overflow_add-t
overflow_add-t c =
    let l = room-taken (goal.at.overflow_add-t c).In-loop-e in
    omega arith

pub overflow_add-t-then-bit_in : goal.overflow_add-t-then-bit_in
overflow_add-t-then-bit_in c =
    let l = room-unclaimed (goal.at.overflow_add-t-then-bit_in c).In-loop-e in
    omega arith

pub overflow_add-t-else-bit_in : goal.overflow_add-t-else-bit_in
overflow_add-t-else-bit_in c =
    let l = room-spoilt (goal.at.overflow_add-t-else-bit_in c).In-loop-e in
    omega arith

pub loop-e-preserved : goal.loop-e-preserved
unfolding has_bit
loop-e-preserved c =
    let in-loop-e = (goal.at.loop-e-preserved c).In-loop-e in
    let bit = sym c.bit_in.ensures in
    let raised = plus-odd (unclaimed in-loop-e / 2 ^ e in-loop-e) (t in-loop-e).unclaimed in
    elim c.if-bit_in.branch [
      | then-bit_in bumped ↦ more-taken in-loop-e (bit ∙ bumped.if-bit_in.true) (bumped.t-is ∙ rw (← bumped.bump.ensures, raised))
      | else-bit_in spoilt ↦ more-spoilt in-loop-e (bit ∙ spoilt.if-bit_in.false) spoilt.t-is
    ]

pub returns : goal.returns
returns c =
    let loop = c.loop-e in
    let q : loop.e ≡ g (goal.at.returns c).Start = omega arith in
    rw q at loop.invariant
