-- `put_listed`: the name, the column, the sum, one behind the other.
use native.Mathlib.Omega.{arith}
use Rattle.sheet.specs.Inner.Columns.{column_of}
use Rattle.sheet.proofs.PrintLaws.{field_short, listed-written}
use Rattle.sheet.proofs.printing.put_listed.Goals as goal

pub put_column-requires : goal.put_column-requires
put_column-requires c =
    (omega (arith, c.requires.0.near, c.requires.1, c.put_bytes_from-a.ensures.0), c.requires.0.within)

pub overflow_add-result : goal.overflow_add-result
overflow_add-result c =
    omega (arith, c.args.columns.now.few, c.requires.1, c.put_bytes_from-a.ensures.0, c.put_column.ensures.within, field_short _ c.put_field_from.ensures.0)

pub returns : goal.returns
returns c =
    let a = c.args in record {
      writes_from = listed-written a.at a.name.now (column_of a.columns.now.numbers.now a.columns.now.lists a.r) a.out.now a.sum c.put_bytes_from-a.ensures
          c.put_column.ensures.writes_from c.put_field_from.ensures;
      within = omega (arith, c.requires.1, c.put_bytes_from-a.ensures.0, c.put_column.ensures.within, field_short _ c.put_field_from.ensures.0);
    }
