-- `put_tally`: the lines of the regions, then `taken`, `spoilt`.
use native.Mathlib.Omega.{arith}
use Rattle.runreport.proofs.PrintLaws.{taken-short, spoilt-short, tally-written}
use Rattle.runreport.proofs.printing.put_tally.Goals as goal

pub overflow_add-b : goal.overflow_add-b
overflow_add-b c =
    let short = taken-short _ c.put_taken.ensures.0 in
    omega (arith, c.put_regions-a.ensures.1, short)

pub overflow_add-result : goal.overflow_add-result
overflow_add-result c =
    let short = taken-short _ c.put_taken.ensures.0 in
    let brief = spoilt-short _ c.put_spoilt.ensures.0 in
    omega (arith, c.put_regions-a.ensures.1, short, brief)

pub returns : goal.returns
returns c =
    tally-written c.args.k c.args.tally.now c.args.out.now c.put_regions-a.ensures.0 c.put_taken.ensures
    c.put_spoilt.ensures
