-- `read_events`: each answer by the law of its case.
use Rattle.events.proofs.AnswerLaws.{answer-ragged, answer-short, answer-listed}
use Rattle.events.proofs.listing.read_events.Goals as goal

pub returns-in-Some : goal.returns-in-Some
returns-in-Some c =
    let a = c.args in
    let r = answer-ragged a.headed a.n a.input.now a.list.now c.ragged_line.ensures c.in-Some.is in
    record { answer = r.0; values = r.1 }

pub returns-then-list-m : goal.returns-then-list-m
returns-then-list-m c =
    let a = c.args in
    let r = answer-short a.headed a.n a.input.now a.list.now c.ragged_line.ensures c.in_default.is c.split-table.ensures.parted c.rest_from.ensures
    c.list_part.ensures c.put_lines-m.ensures.0 c.put_lines-m.ensures.1 c.if-list-m.true in
    record { answer = r.0; values = r.1 }

pub returns : goal.returns
returns c =
    let a = c.args in
    let r = answer-listed a.headed a.n a.input.now a.list.now c.ragged_line.ensures c.in_default.is c.split-table.ensures.parted c.rest_from.ensures
    c.list_part.ensures c.put_lines-m.ensures.0 c.put_lines-m.ensures.1 c.if-list-m.false in
    record { answer = r.0; values = r.1 }
