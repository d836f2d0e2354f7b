-- `put_numbers`: the first r counts are written over the beginning.
use mathlib.Core.Path.{◌≡◌, refl}
use Prim.Native.Nat.{◌<◌}
use native.Mathlib.Omega.{arith}
use borrow.Author.Rules.{rules}
use lib.ListN.{get_or}
use Rattle.sheet.proofs.ColumnLaws.{counts-none, counts-more, numbers-written}
use Rattle.sheet.proofs.counting.put_numbers.Goals as goal

pub loop-r-init : goal.loop-r-init
loop-r-init c = counts-none c.args.tally c.args.rest.now c.requires.long

pub overflow_cast-tally : goal.overflow_cast-tally
overflow_cast-tally c =
    let h : get_or c.args.tally.counts c.loop-r.r 0 < 32769 = omega (arith, c.requires.count_most c.loop-r.r) in
    search rules

pub loop-r-preserved : goal.loop-r-preserved
loop-r-preserved c =
    counts-more c.args.tally c.args.rest.now c.requires.long c.loop-r.r (omega arith) c.loop-r.invariant refl c.put.ensures

pub overflow_cast-tally-2 : goal.overflow_cast-tally-2
overflow_cast-tally-2 c =
    let h : c.args.tally.taken < 32769 = omega (arith, c.requires.taken_most) in
    search rules

pub overflow_cast-tally-3 : goal.overflow_cast-tally-3
overflow_cast-tally-3 c =
    let h : c.args.tally.spoilt < 32769 = omega (arith, c.requires.spoilt_most) in
    search rules

pub overflow_cast-tally-4 : goal.overflow_cast-tally-4
overflow_cast-tally-4 c =
    let h : c.args.tally.unclaimed < 32769 = omega (arith, c.requires.unclaimed_most) in
    search rules

pub returns : goal.returns
returns c =
    let z : c.loop-r.r ≡ 64 = omega arith in
    numbers-written c.args.tally c.args.rest.now c.requires.long (rw z at c.loop-r.invariant)
    refl c.put-2.ensures refl c.put-3.ensures refl c.put-4.ensures
