-- `put_regions`: the lines of the regions below r are written.
use mathlib.Core.Path.{◌≡◌, refl}
use native.Mathlib.Omega.{arith}
use Rattle.runreport.proofs.PrintLaws.{number_short, count-short, lines_none, lines-written}
use Rattle.runreport.proofs.printing.put_regions.Goals as goal

pub loop-r-init : goal.loop-r-init
loop-r-init c = (omega arith, lines_none _ _)

pub overflow_add-at : goal.overflow_add-at
overflow_add-at c =
    let short = number_short _ c.put_number_from-at.ensures.0 in
    omega (arith, c.requires, c.loop-r.invariant.0, short)

pub overflow_add-at-in-loop-r : goal.overflow_add-at-in-loop-r
overflow_add-at-in-loop-r c =
    let short = number_short _ c.put_number_from-at.ensures.0 in
    let brief = count-short _ c.put_count_from-at.ensures.0 in
    omega (arith, c.requires, c.loop-r.invariant.0, short, brief)

pub loop-r-preserved : goal.loop-r-preserved
loop-r-preserved c =
    let short = number_short _ c.put_number_from-at.ensures.0 in
    let brief = count-short _ c.put_count_from-at.ensures.0 in (
      omega (arith, c.loop-r.invariant.0, short, brief),
      lines-written c.args.counts.now c.args.out.now c.loop-r.r c.loop-r.invariant.1 c.put_number_from-at.ensures refl c.put_count_from-at.ensures,
    )

pub returns : goal.returns
returns c =
    let end : c.loop-r.r ≡ c.args.k = omega arith in
    (rw end at c.loop-r.invariant.1, omega (arith, c.requires, c.loop-r.invariant.0))
