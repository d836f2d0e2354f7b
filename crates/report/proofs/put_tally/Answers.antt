-- `put_tally`: the table is read of the text; the lines of the regions, then `taken`, `spoilt`.
use native.Mathlib.Omega.{arith}
use Rattle.gates.specs.Gate.{regions}
use Rattle.tables.specs.Head.{gates}
use Rattle.compiler.proofs.VerdictLaws.{number-accepted}
use Rattle.report.proofs.AcceptedLaws.{names-short, gates_are}
use Rattle.report.proofs.ReportLaws.{taken-short, spoilt-short, tally-written}
use Rattle.report.proofs.put_tally.Goals as goal

pub put_regions-a-requires : goal.put_regions-a-requires
put_regions-a-requires c =
    let t = c.args.text.now in
    let r = c.new.ensures in
    let a = number-accepted 4096 t c.requires.0 in
    rw (gates_are 4096 t a r.text r.starts r.gates, c.requires.1) (a.rules.few, omega arith, names-short 4096 t a)

pub overflow_add-b : goal.overflow_add-b
overflow_add-b c =
    let t = taken-short _ c.put_taken.ensures.0 in
    omega (arith, c.put_regions-a.ensures.within, t)

pub overflow_add-result : goal.overflow_add-result
overflow_add-result c =
    let t = taken-short _ c.put_taken.ensures.0 in
    let s = spoilt-short _ c.put_spoilt.ensures.0 in
    omega (arith, c.put_regions-a.ensures.within, t, s)

pub returns : goal.returns
returns c =
    let args = c.args in
    let t = args.text.now in
    let e = c.new.ensures in
    let a = number-accepted 4096 t c.requires.0 in
    let r = rw (gates_are 4096 t a e.text e.starts e.gates) at c.put_regions-a.ensures in
    tally-written (regions (gates t)) args.tally.now args.out.now args.m c.requires.1 r.writes c.put_taken.ensures c.put_spoilt.ensures
