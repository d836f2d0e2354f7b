-- `put_run`: the plan's text is read, and what the plan prints.
use native.Mathlib.Omega.{arith}
use lib.ListN.{take}
use lib.Seq.{length-take-le}
use Rattle.runreport.specs.PlanReading.{words_of}
use Rattle.events.proofs.EventTheorems.{written-taken}
use Rattle.runreport.proofs.RunLaws.{part-is, run_unread, run_ran}
use Rattle.runreport.proofs.put_run.Goals as goal

pub returns-in-Some : goal.returns-in-Some
returns-in-Some c =
    rw (run_unread c.args.input.now c.requires.0 (part-is _ _ c.split.ensures.parted) c.unread_line.ensures c.in-Some.line c.in-Some.is) at
    c.put_unread.ensures

pub returns : goal.returns
returns c =
    let input = c.args.input.now in
    let words = c.put_words-m.ensures in
    let few = length-take-le c.split.result.table input c.split.ensures.within in
    let plan = written-taken (words_of (take c.split.result.table input)) c.args.plan.now words.0.0 words.0.1
    (omega (arith, words.0.0, words.1, few, c.requires.0, c.requires.1)) in
    rw (run_ran input c.requires.0 (part-is _ _ c.split.ensures.parted) c.unread_line.ensures c.in_default.is _ plan) at c.put_plan.ensures
