-- `put_region`: the share and LF stand behind the column and its sum.
use mathlib.Core.Path.{◌≡◌, ◌∙◌}
use native.Mathlib.Omega.{arith}
use lib.ListN.{get_or}
use Rattle.sheet.specs.Inner.Columns.{column_of}
use Rattle.sheet.proofs.PrintLaws.{field_short, count_low, region-written}
use Rattle.sheet.proofs.printing.put_region.Goals as goal

pub overflow_add-b : goal.overflow_add-b
overflow_add-b c =
    omega (arith, c.args.columns.now.few, c.put_listed-a.ensures.within, field_short _ c.put_field_from.ensures.0)

pub overflow_add-at-2 : goal.overflow_add-at-2
overflow_add-at-2 c =
    omega (arith, c.requires.0.near, c.args.columns.now.few, c.put_listed-a.ensures.within, field_short _ c.put_field_from.ensures.0)

pub overflow_add-c : goal.overflow_add-c
overflow_add-c c =
    omega (arith, c.args.columns.now.few, c.put_listed-a.ensures.within, field_short _ c.put_field_from.ensures.0, field_short _ c.put_field_from-2.ensures.0)

pub overflow_add-at-3 : goal.overflow_add-at-3
overflow_add-at-3 c =
    let x = field_short _ c.put_field_from.ensures.0 in
    let y = field_short _ c.put_field_from-2.ensures.0 in
    omega (arith, c.requires.0.near, c.args.columns.now.few, c.put_listed-a.ensures.within, x, y)

pub overflow_add-result : goal.overflow_add-result
overflow_add-result c =
    let x = field_short _ c.put_field_from.ensures.0 in
    let y = field_short _ c.put_field_from-2.ensures.0 in
    omega (arith, c.args.columns.now.few, c.put_listed-a.ensures.within, x, y, c.put_bytes_from.ensures.0)

pub returns : goal.returns
returns c =
    let a = c.args in
    let x = field_short _ c.put_field_from.ensures.0 in
    let y = field_short _ c.put_field_from-2.ensures.0 in
    let i : c.count_by-count.result ≡ get_or a.total.now.counts a.r 0 = c.count_by-count.ensures ∙ count_low a.total.now a.r (omega (arith, c.requires.2)) in
    let w =
    region-written a.at a.name.now (column_of a.columns.now.numbers.now a.columns.now.lists a.r) a.out.now c.count_by-count.result
    c.put_listed-a.ensures.writes_from
    c.count_by-count.result c.count_by.result c.put_field_from.ensures c.put_field_from-2.ensures c.put_bytes_from.ensures in record {
      writes_from = rw (i, c.count_by.ensures) at w;
      within = omega (arith, c.put_listed-a.ensures.within, x, y, c.put_bytes_from.ensures.0);
    }
