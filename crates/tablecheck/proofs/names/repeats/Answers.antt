-- `repeats` meets its contract: by the gate's own names, then by those of the gates before it.
use Rattle.std.proofs.Common.{sym, ◌∙◌, rules}
use borrow.Author.Tests.{tests}
use Rattle.plans.proofs.IteratorLaws.{any_in_range}
use Rattle.tablecheck.specs.Inner.Names.{shares_at}
use Rattle.tablecheck.proofs.RepeatLaws.{repeats_own, repeats_rest, own_read, shares_read}
use Rattle.tablecheck.proofs.names.repeats.Goals as goal

pub returns-then-not-own_different : goal.returns-then-not-own_different
returns-then-not-own_different c =
    let t = c.args.table.now.text.now in
    let s = c.args.table.now.starts in
    rw c.if-not-own_different.true (repeats_own t s c.args.i (own_read t s c.args.i c.line-line.ensures c.own_different.ensures) c.if-not-own_different.true)

pub returns-else-not-own_different : goal.returns-else-not-own_different
returns-else-not-own_different c =
    let t = c.args.table.now.text.now in
    let s = c.args.table.now.starts in
    let i = c.args.i in
    let read = shares_read t s i c.line-line.ensures in
    any_in_range (shares_at t s i) i _ _ _ (cc) c.any.ensures.ran (λ x b q k. search (rules, tests, read))
    ∙ sym (repeats_rest t s i (own_read t s i c.line-line.ensures c.own_different.ensures) c.if-not-own_different.false)
