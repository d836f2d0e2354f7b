-- `bad_line`: the k lines before `at` are good, and `columns` says how the next is read.
use mathlib.Core.Path.{sym, ◌∙◌}
use native.Mathlib.Omega.{arith}
use Rattle.text.specs.Inner.Places.{line_from}
use Rattle.text.proofs.LinesLaws.{find_from_lem, found_inside}
use Rattle.events.proofs.ListingLaws.{read_more, bad-read, bad-found, bad-after}
use Rattle.events.proofs.listing.bad_line.Goals as goal

pub returns-then-columns-opening : goal.returns-then-columns-opening
returns-then-columns-opening c =
    let loop = c.loop-at in
    let a = c.args in
    let bad = sym (bad-read a.several loop.columns a.n (line_from a.part.now loop.at))
    ∙ rw (c.is_event.ensures, c.opens.ensures, c.line_from-line.ensures) at c.if-columns-opening.true in
    bad-found a.several a.headed a.n a.part.now loop.at loop.k loop.columns loop.invariant c.loop-at-test.true bad

pub overflow_add-at : goal.overflow_add-at
overflow_add-at c =
    omega (arith, found_inside c.args.part.now c.loop-at.at 10 c.find-at.ensures (omega arith))

pub loop-at-smaller : goal.loop-at-smaller
loop-at-smaller c =
    omega (arith, find_from_lem c.args.part.now c.loop-at.at 10)

pub loop-at-preserved : goal.loop-at-preserved
loop-at-preserved c =
    let loop = c.loop-at in
    let a = c.args in
    let good = sym (bad-read a.several loop.columns a.n (line_from a.part.now loop.at))
    ∙ rw (c.is_event.ensures, c.opens.ensures, c.line_from-line.ensures) at c.if-columns-opening.false in
    rw (c.opens.ensures, c.line_from-line.ensures)
    (read_more a.several a.headed a.n a.part.now loop.at loop.k loop.columns loop.invariant c.loop-at-test.true
    _ c.find-at.ensures good)

pub returns : goal.returns
returns c =
    let a = c.args in
    c.then_some.ensures
    ∙ rw c.ends_in_lf.ensures
    (bad-after a.several a.headed a.n a.part.now c.loop-at.at c.loop-at.k c.loop-at.columns c.loop-at.invariant c.loop-at-test.false)
