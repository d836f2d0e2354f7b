-- `put_summary`: LF ends the line.
use native.Mathlib.Omega.{arith}
use Rattle.sheet.specs.Inner.Columns.{column_of}
use Rattle.sheet.proofs.PrintLaws.{summary_written}
use Rattle.sheet.proofs.printing.put_summary.Goals as goal

pub returns : goal.returns
returns c =
    let a = c.args in record {
      writes_from = summary_written a.at a.name.now (column_of a.columns.now.numbers.now a.columns.now.lists a.r) a.out.now a.sum
          c.put_listed-a.ensures.writes_from
          c.put_bytes_from.ensures;
      within = omega (arith, c.put_listed-a.ensures.within, c.put_bytes_from.ensures.0);
    }
