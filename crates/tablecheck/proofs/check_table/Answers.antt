-- `check_table` meets its contract: the answers one after the other.
use Rattle.tablecheck.proofs.CursorLaws.{long-text, unended_text, bad-head, lines_next}
use borrow.Author.Tests.{not-true, not-false}
use Rattle.tablecheck.proofs.check_table.Goals as goal

pub returns-then-text-gt32768 : goal.returns-then-text-gt32768
returns-then-text-gt32768 c = λ v. long-text c.args.text.now c.if-text-gt32768.true v

pub returns-then-not-ends_in_lf : goal.returns-then-not-ends_in_lf
returns-then-not-ends_in_lf c =
    let short = c.if-text-gt32768.false in
    λ v. unended_text c.args.text.now short c.ends_in_lf.ensures (not-true _ c.if-not-ends_in_lf.true-raw) v

pub returns-then-not-head_good : goal.returns-then-not-head_good
returns-then-not-head_good c =
    let short = c.if-text-gt32768.false in
    let ends-in-lf = c.ends_in_lf in
    let ended = not-false _ c.if-not-ends_in_lf.false-raw in
    λ v. bad-head c.args.text.now short ends-in-lf.ensures ended c.head_good.ensures (not-true _ c.if-not-head_good.true-raw) v

pub returns : goal.returns
returns c =
    let short = c.if-text-gt32768.false in
    let ends-in-lf = c.ends_in_lf in
    let ended = not-false _ c.if-not-ends_in_lf.false-raw in
    let head-good = c.head_good in
    λ v. lines_next c.args.text.now short ends-in-lf.ensures ended head-good.ensures (not-false _ c.if-not-head_good.false-raw) v
    (c.lines_refusal.ensures v)
