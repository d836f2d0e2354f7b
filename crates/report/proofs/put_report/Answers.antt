-- `put_report`: the input parted, its column line found, its events read, its table compiled and counted by, and what that prints.
use mathlib.Core.Path.{sym, ap, ◌∙◌}
use Rattle.std.specs.Prelude.{Err}
use mathlib.Core.List.{[], ◌∷◌}
use native.Mathlib.Omega.{arith}
use lib.ListN.{take}
use lib.Seq.{length-take-le}
use Rattle.compiler.proofs.PlanLaws.{dims-read}
use Rattle.report.proofs.InputLaws.{table_is, never_short, values-room, values_listed, line-ragged, input-printed}
use Rattle.report.proofs.put_report.Goals as goal

pub slice_bounds-table-end : goal.slice_bounds-table-end
slice_bounds-table-end c = sym (length-take-le c.split.result.table c.args.input.now c.split.ensures.within)

pub slice_bounds-put_counted-end : goal.slice_bounds-put_counted-end
slice_bounds-put_counted-end c =
    let r = c.read_events in
    let pre = c.requires in
    let k = values-room _ c.args.input.now pre.0 c.args.list.now _ pre.2 _ r.ensures.answer r.ensures.values _ c.in-Ok.is in
    omega (arith, r.auto, pre.2, k)

pub slice_bounds-put_counted-end-in-Ok : goal.slice_bounds-put_counted-end-in-Ok
slice_bounds-put_counted-end-in-Ok c =
    let r = c.read_events in
    let pre = c.requires in
    let k = values-room _ c.args.input.now pre.0 c.args.list.now _ pre.2 _ r.ensures.answer r.ensures.values _ c.in-Ok.is in
    sym (length-take-le c.in-Ok.k _ (omega (arith, r.auto, pre.2, k)))

pub returns-in-Ok : goal.returns-in-Ok
returns-in-Ok c =
    let i = c.args.input.now in
    let b = take c.split.result.table i in
    let n = dims-read b c.head_line.ensures c.name_count.ensures in
    let t = table_is i c.split.ensures.parted in
    let r = c.read_events in
    let v = values_listed _ i c.requires.0 c.args.list.now _ c.requires.2 _ r.ensures.answer r.ensures.values _ c.in-Ok.is b (_ ∷ []) in
    rw (input-printed i b _ c.name_count.result _ c.requires.0 t c.column_line-columns.ensures n v) at c.put_counted.ensures

pub returns-in-Err-Ragged : goal.returns-in-Err-Ragged
returns-in-Err-Ragged c =
    let i = c.args.input.now in
    let b = take c.split.result.table i in
    let n = dims-read b c.head_line.ensures c.name_count.ensures in
    let t = table_is i c.split.ensures.parted in
    let r = c.read_events in
    let e = c.in-Err-Ragged.is ∙ ap Err c.in-Err-Ragged.field-0-is in
    let v = line-ragged _ i c.requires.0 c.args.list.now _ c.requires.2 _ r.ensures.answer r.ensures.values _ e b (_ ∷ []) in
    rw (input-printed i b _ c.name_count.result _ c.requires.0 t c.column_line-columns.ensures n v) at c.put_ragged.ensures

pub returns-in-Err-Short : goal.returns-in-Err-Short
returns-in-Err-Short c =
    let r = c.read_events in
    let e = c.in-Err-Short.is ∙ ap Err c.in-Err-Short.field-0-is in
    absurd (never_short _ c.args.input.now c.requires.0 c.args.list.now _ c.requires.2 _ r.ensures.answer r.ensures.values e)
