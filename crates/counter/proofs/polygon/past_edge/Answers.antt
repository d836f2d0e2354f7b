-- `past_edge`: on the line of the edge the two tests tell, and elsewhere its turn is added.
use mathlib.Core.Path.{◌≡◌, sym, ◌∙◌}
use mathlib.Core.Bool.{true, and-false}
use borrow.Author.Tests.{eq-eqb, ne_eqb}
use lib.Dec.{eqb}
use lib.IntN.{pos, ◌+ℤ◌}
use mir.Syntax.{w64}
use mir.Val.{SFits, of_z}
use mir.Facts.{to_z-of_z, sfits_lit}
use Rattle.integers.specs.Equality.{eq_z}
use Rattle.integers.proofs.Bounds.{fit, in_add, ok64}
use Rattle.integers.proofs.Equality.{eqb-bits}
use Rattle.counter.specs.Polygon.{between}
use Rattle.counter.specs.Inner.Walks.{turn_for}
use Rattle.counter.proofs.WalkLaws.{edge_carries, edge_on_line, edge_aside, turn_for_in}
use Rattle.counter.specs.Inner.Walks.{Near}
use Rattle.counter.specs.declared.polygon.Offset.{Offset}
use Rattle.counter.proofs.polygon.past_edge.Goals as goal
use Rattle.counter.proofs.polygon.past_edge.Goals.{After-between, After-between-then-between, After-side-s, After-turn, Start, Then-s-eq0}

-- the test, asked of the bits
test-is : (c : After-side-s) → eqb (of_z w64 c.side-s.result) (of_z w64 (pos 0)) ≡ eq_z c.side-s.result (pos 0)
test-is c = eqb-bits w64 c.side-s.result (pos 0) (ok64 c.side-s.result c.side-s.type_inv) (sfits_lit tt)

-- the numbers of an end fit
right-fits : {offset : Offset} → Near offset → SFits w64 offset.right
right-fits near = fit tt near.right_in

up-fits : {offset : Offset} → Near offset → SFits w64 offset.up
up-fits near = fit tt near.up_in

-- what the calls answer, of the numbers themselves
right_is : (c : After-between)
    → (let args = c.args in c.between.result ≡ between args.a.right args.b.right (pos 0))
right_is c = simp (to_z-of_z, right-fits c.requires.0, right-fits c.requires.1) at c.between.ensures

up_is : (c : After-between-then-between)
    → (let args = c.args in
    c.between-then-between.result ≡ between args.a.up args.b.up (pos 0))
up_is c =
    simp (to_z-of_z, up-fits c.requires.0, up-fits c.requires.1) at c.between-then-between.ensures

-- the point is on the edge's line
line : (c : Then-s-eq0) → eq_z c.side-s.result (pos 0) ≡ true
line c = sym (test-is c.before) ∙ eq-eqb _ _ c.if-s-eq0.true

pub returns-then-between-2 : goal.returns-then-between-2
returns-then-between-2 c =
    let args = c.args in
    edge_carries args.a args.b args.sum c.side-s.result c.side-s.ensures (line (goal.at.returns-then-between-2 c).Then-s-eq0)
    (sym (right_is (goal.at.returns-then-between-2 c).After-between) ∙ c.if-between.true)
    (sym (up_is (goal.at.returns-then-between-2 c).After-between-then-between) ∙ c.if-between-2.true)

pub returns-else-between-2 : goal.returns-else-between-2
returns-else-between-2 c =
    let args = c.args in
    simp (to_z-of_z, c.ranges.sum)
    (edge_on_line args.a args.b args.sum c.side-s.result c.side-s.ensures (line (goal.at.returns-else-between-2 c).Then-s-eq0)
    (rw (sym (up_is (goal.at.returns-else-between-2 c).After-between-then-between) ∙ c.if-between-2.false)
    (and-false (between args.a.right args.b.right (pos 0)))))

pub returns-else-between : goal.returns-else-between
returns-else-between c =
    let args = c.args in
    simp (to_z-of_z, c.ranges.sum)
    (edge_on_line args.a args.b args.sum c.side-s.result c.side-s.ensures (line (goal.at.returns-else-between c).Then-s-eq0)
    (rw (sym (right_is (goal.at.returns-else-between c).After-between) ∙ c.if-between.false)))

-- what `turn` answers, of the side itself
turn_is : (c : After-turn)
    → (let args = c.args in c.turn.result ≡ turn_for args.a.up args.b.up c.side-s.result)
turn_is c = let s = c.side-s in simp (to_z-of_z, ok64 s.result s.type_inv) at c.turn.ensures

sum_fits : (c : After-turn) → SFits w64 (c.args.sum +ℤ c.turn.result)
sum_fits c =
    rw (turn_is c) (fit tt (in_add c.requires.2 (turn_for_in c.args.a.up c.args.b.up c.side-s.result)))

pub overflow_add-result : goal.overflow_add-result
overflow_add-result c = simp (to_z-of_z, c.ranges.sum, ok64 c.turn.result c.turn.type_inv) (sum_fits c)

pub returns : goal.returns
returns c =
    let args = c.args in
    let s = c.side-s in
    simp (to_z-of_z, c.ranges.sum, ok64 c.turn.result c.turn.type_inv, sum_fits c)
    (rw (turn_is c)
    (edge_aside args.a args.b args.sum s.result s.ensures (sym (test-is (goal.at.returns c).After-side-s) ∙ ne_eqb _ _ c.if-s-eq0.false)))
