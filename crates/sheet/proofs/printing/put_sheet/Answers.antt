-- `put_sheet`: the table is read of the text; the lines of the regions, those that follow, `events`.
use native.Mathlib.Omega.{arith}
use Rattle.compiler.proofs.VerdictLaws.{number-accepted}
use Rattle.report.proofs.AcceptedLaws.{names-short, gates_are}
use Rattle.sheet.proofs.PrintLaws.{events-short, sheet_written}
use Rattle.sheet.proofs.printing.put_sheet.Goals as goal

pub put_regions-a-requires : goal.put_regions-a-requires
put_regions-a-requires c =
    let t = c.args.text.now in
    let r = c.new.ensures in
    let a = number-accepted 4096 t c.requires.0 in
    rw (gates_are 4096 t a r.text r.starts r.gates, c.requires.1) (a.rules.few, omega arith, names-short 4096 t a)

pub overflow_add-result : goal.overflow_add-result
overflow_add-result c =
    let t = c.args.total in
    omega (arith, c.put_regions-a.ensures.within, c.put_summaries.ensures.within, events-short _ c.put_count_from.ensures.0)

pub returns : goal.returns
returns c =
    let args = c.args in
    let t = args.text.now in
    let e = c.new.ensures in
    let a = number-accepted 4096 t c.requires.0 in
    let r = rw (gates_are 4096 t a e.text e.starts e.gates) at c.put_regions-a.ensures.writes in
    sheet_written t args.columns.now.numbers.now args.columns.now.lists args.total.now args.out.now args.m c.requires.1 r
    c.put_summaries.ensures.writes_from c.put_count_from.ensures
