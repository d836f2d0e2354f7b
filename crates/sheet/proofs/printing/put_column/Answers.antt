-- `put_column`: the fields of the first j lists are written.
use mathlib.Core.Path.{◌≡◌}
use native.Mathlib.Omega.{arith}
use Rattle.sheet.proofs.PrintLaws.{field_short, column-length, column-none, column-next}
use Rattle.sheet.proofs.printing.put_column.Goals as goal

pub loop-j-init : goal.loop-j-init
loop-j-init c = column-none c.args.columns.now.numbers.now c.args.r c.args.at c.args.out.now

pub overflow_add-at : goal.overflow_add-at
overflow_add-at c =
    let a = c.args in
    omega (
      arith,
      c.args.columns.now.few,
      c.requires,
      c.loop-j.invariant.0,
      column-length a.columns.now.numbers.now a.r c.loop-j.j,
    )

pub overflow_add-bytes : goal.overflow_add-bytes
overflow_add-bytes c =
    let a = c.args in
    omega (
      arith,
      c.args.columns.now.few,
      c.requires,
      c.loop-j.invariant.0,
      column-length a.columns.now.numbers.now a.r c.loop-j.j,
      field_short _ c.put_field_from-bytes.ensures.0,
    )

pub loop-j-preserved : goal.loop-j-preserved
loop-j-preserved c =
    let a = c.args in
    column-next a.columns.now.numbers.now a.r a.at c.loop-j.j a.out.now c.loop-j.invariant c.number.ensures c.put_field_from-bytes.ensures

pub returns : goal.returns
returns c =
    let a = c.args in
    let z : c.loop-j.j ≡ a.columns.now.lists = omega arith in
    let w = rw z at c.loop-j.invariant in
    record {
      writes_from = w;
      within = omega (arith, w.0, column-length a.columns.now.numbers.now a.r a.columns.now.lists);
    }
