-- `put_summaries`: the three lines, one behind the other.
use native.Mathlib.Omega.{arith}
use Rattle.sheet.specs.Inner.Numbers.{summaries_by}
use Rattle.sheet.proofs.PrintLaws.{summaries-written}
use Rattle.sheet.proofs.printing.put_summaries.Goals as goal

pub returns : goal.returns
unfolding summaries_by
returns c =
    let a = c.args in record {
      writes_from = summaries-written a.at _ _ _ a.out.now c.put_summary-a.ensures.writes_from
          c.put_summary.ensures.writes_from c.put_summary-2.ensures.writes_from;
      within = omega (arith, c.args.columns.now.few, c.put_summary-a.ensures.within, c.put_summary.ensures.within, c.put_summary-2.ensures.within);
    }
