-- `shape_of` goes by cases as `position_in` does: a shape does not look at the bits, a combination looks at the sets.
use mathlib.Core.Path.{ap, ◌∙◌, sym}
use mathlib.Core.Bool.{not}
use Rattle.counter.specs.Inner.Groups.{outside, drawn_at, shape_at}
use Rattle.counter.proofs.PositionLaws.{without-outline_tells}
use Rattle.counter.proofs.GroupLaws.{those_same, those_and, all-is, any-is, operand_same}
use Rattle.counter.proofs.sets.shape_of.Goals as goal

-- ---- what the calls ask: the case tells what the body is
pub drawn_of-requires : goal.drawn_of-requires
drawn_of-requires c =
    let pre = c.requires in
    (pre.0, pre.1, rw c.in-Drawn.is at pre.2)

pub all_of-requires : goal.all_of-requires
all_of-requires c =
    let pre = c.requires in
    (pre.3, rw c.in-And.is at pre.2)

pub any_of-requires : goal.any_of-requires
any_of-requires c =
    let pre = c.requires in
    (pre.3, rw c.in-Or.is at pre.2)

pub operand_of-requires : goal.operand_of-requires
operand_of-requires c =
    let pre = c.requires in
    let operands = rw c.in-Not.is at pre.2 in
    (pre.3, operands.some, operands)

-- ---- a shape
pub returns-in-Drawn : goal.returns-in-Drawn
unfolding drawn_at shape_at
returns-in-Drawn c bits agree = those_same (λ e h t. rw c.in-Drawn.is) c.drawn_of.ensures

-- ---- combinations
pub returns-in-And : goal.returns-in-And
unfolding shape_at
returns-in-And c bits agree =
    let is-and = c.in-And.is in
    let args = c.args in
    let operands = rw is-and at c.requires.2 in
    those_same (λ e h t. rw is-and (all-is args.sets.now args.body.now agree operands e h t ∙ sym (without-outline_tells _).0)) c.all_of.ensures

pub returns-in-Or : goal.returns-in-Or
unfolding shape_at
returns-in-Or c bits agree =
    let is-or = c.in-Or.is in
    let args = c.args in
    let operands = rw is-or at c.requires.2 in
    those_same (λ e h t. rw is-or (any-is args.sets.now args.body.now agree operands e h t ∙ sym (without-outline_tells _).0))
    (those_and args.among c.any_of.ensures)

pub returns-in-Not : goal.returns-in-Not
unfolding shape_at outside
returns-in-Not c bits agree =
    let is-not = c.in-Not.is in
    let args = c.args in
    let operands = rw is-not at c.requires.2 in
    let same = operand_same args.sets.now args.body.now agree operands in
    let one = c.operand_of.ensures in
    those_same (λ e h t. rw is-not (ap not (one.each e h ∙ same e h t 0 operands.some) ∙ sym (without-outline_tells _).0))
    (those_and args.among c.complement.ensures)
