-- `bump`: the counts below r are the new ones, those from r on the old.
use mathlib.Core.Path.{◌≡◌, refl, ap, ◌∙◌}
use mathlib.Core.Bool.{cond}
use mathlib.Core.List.{List, ◌++◌}
use Prim.Native.Nat.{ℕ, ◌+◌, ◌/◌, ◌%◌, ◌^◌, ◌<◌}
use native.Mathlib.Omega.{arith}
use lib.ListN.{get_or, drop, set}
use Rattle.plans.specs.Bits.{has_bit}
use Rattle.counter.specs.Counting.{list_from}
use Rattle.counter.specs.Inner.Groups.{in_set}
use Rattle.counter.specs.Inner.Raising.{bump_at}
use Rattle.counter.proofs.TableLaws.{plus-odd, bump_read, bump_write, bump_done}
use Rattle.counter.proofs.groups.bump.Goals as goal
use Rattle.counter.proofs.groups.bump.Goals.{In-loop-r}

pub loop-r-init : goal.loop-r-init
unfolding list_from
loop-r-init c = refl

-- in the loop: the place is below 64, and what is read is the old count, which has room
module _ (in-loop : In-loop-r) where
  abbrev old : List ℕ
  old = in-loop.args.counts.now

  abbrev sets : List ℕ
  sets = in-loop.args.sets.now

  abbrev e : ℕ
  e = in-loop.args.e

  abbrev counts : List ℕ
  counts = in-loop.loop-r.counts

  abbrev r : ℕ
  r = in-loop.loop-r.r

  counts_are : counts ≡ list_from (bump_at old (in_set sets e)) 0 r ++ drop r old
  counts_are = in-loop.loop-r.invariant

  low : r < 64
  low = omega arith

  read : get_or counts r 0 ≡ get_or old r 0
  read = ap (λ (l : List ℕ). get_or l r 0) counts_are ∙ bump_read old _ r low in-loop.requires.0

  small : get_or counts r 0 < 2 ^ 63
  small = rw read (in-loop.requires.2 r low)

  -- what is written
  abbrev raised : ℕ
  raised = get_or counts r 0 + get_or sets r 0 / 2 ^ e % 2

  raised_is : raised ≡ cond (in_set sets e r) (get_or old r 0 + 1) (get_or old r 0)
  unfolding in_set has_bit
  raised_is = rw read (plus-odd (get_or sets r 0 / 2 ^ e) (get_or old r 0))

pub overflow_add-counts : goal.overflow_add-counts
overflow_add-counts c =
    let l = small (goal.at.overflow_add-counts c).In-loop-r in
    omega arith

pub loop-r-preserved : goal.loop-r-preserved
loop-r-preserved c =
    let in-loop-r = (goal.at.loop-r-preserved c).In-loop-r in
    let written = ap (λ (l : List ℕ). set l (r in-loop-r) (raised in-loop-r)) (counts_are in-loop-r) in
    let test = in_set (sets in-loop-r) (e in-loop-r) in
    written ∙ bump_write (old in-loop-r) test (r in-loop-r) (low in-loop-r) c.requires.0 (raised_is in-loop-r)

pub returns : goal.returns
returns c =
    let loop = c.loop-r in
    let args = c.args in
    let q : loop.r ≡ args.m = omega arith in
    loop.invariant
    ∙ bump_done args.counts.now (in_set args.sets.now args.e) loop.r
    (λ s l u. c.requires.5 s (omega arith) u) (rw q c.requires.3) c.requires.0
