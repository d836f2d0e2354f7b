-- `first_crowded` meets its contract: total regions are passed, and no gate before i crowds.
use Rattle.std.proofs.Common.{sym, ◌∙◌, rules, arith}
use native.Mathlib.Nat.{sub-zero}
use Rattle.plans.proofs.IndexLaws.{first_more, first_stop, first_end}
use Rattle.tables.specs.Refusals.{uncrowded}
use Rattle.resolve.specs.Inner.Reading.{gates_at}
use Rattle.resolve.proofs.CrowdLaws.{total-none, total-next, crowded_here, crowded_not}
use Rattle.tablecheck.proofs.FoundLaws.{some_below, none_below}
use Rattle.tablecheck.proofs.names.first_crowded.Goals as goal

pub loop-i-init : goal.loop-i-init
loop-i-init c = (search rules, total-none _ _, rw sub-zero)

pub returns-then-total-m : goal.returns-then-total-m
returns-then-total-m c =
    let table = c.args.table.now in
    let t = table.text.now in
    let s = table.starts in
    let n = table.gates in
    let j = c.loop-i in
    some_below n (sym (j.invariant.2 ∙ first_stop (uncrowded (gates_at t s n)) n j.i c.loop-i-test.true
    (crowded_here t s n j.i c.loop-i-test.true c.line.ensures c.region_count-m.ensures j.invariant.1 j.invariant.0 c.if-total-m.true)))
    c.loop-i-test.true

pub loop-i-preserved : goal.loop-i-preserved
loop-i-preserved c =
    let table = c.args.table.now in
    let t = table.text.now in
    let s = table.starts in
    let n = table.gates in
    let j = c.loop-i in
    let b = j.invariant.0 in
    let h = c.if-total-m.false in (
      omega arith,
      total-next t s n j.i c.loop-i-test.true c.line.ensures c.region_count-m.ensures j.invariant.1,
      j.invariant.2 ∙ first_more (uncrowded (gates_at t s n)) n j.i c.loop-i-test.true
          (crowded_not t s n j.i c.loop-i-test.true c.line.ensures c.region_count-m.ensures j.invariant.1 j.invariant.0 c.if-total-m.false),
    )

pub returns : goal.returns
returns c =
    let table = c.args.table.now in
    let n = table.gates in
    let j = c.loop-i in
    none_below n (rw (j.invariant.2, first_end (uncrowded (gates_at table.text.now table.starts n)) n j.i c.loop-i-test.false) c.loop-i-test.false)
