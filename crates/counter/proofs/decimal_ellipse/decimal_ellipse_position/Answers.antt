-- `decimal_ellipse_position`: every 64-bit part fits, no sum wraps, and the left side is the form times a million.
use mathlib.Core.Path.{◌∙◌, ap, ap₂}
use mathlib.Core.List.{List, [], ◌∷◌}
use mir.Syntax.{w64}
use Rattle.integers.specs.Inner.Expressions.{Ex, var, lit, ◌⊕◌, ◌⊖◌, ◌⊗◌}
use Rattle.integers.specs.Inner.Machine.{Var, short, All, Casts, values}
use Rattle.integers.proofs.Bounds.{in_mag, in_of-positive}
use Rattle.integers.proofs.Overflow.{zcasts}
use Rattle.integers.proofs.Solver.{solve}
use Rattle.wide.specs.Inner.Values.{order_of}
use Rattle.wide.specs.Inner.Sums.{Sum, ◌⊠◌, ◌⊞◌, flat, SumNeeds}
use Rattle.wide.proofs.SumLaws.{sum_needs, sum-gives, plus-is}
use Rattle.counter.specs.DecimalEllipse.{decimal_left, decimal_right, decimal_ellipse_position}
use Rattle.counter.specs.Inner.Steps.{position_by}
use Rattle.counter.proofs.PositionLaws.{order_sides}
use Rattle.counter.proofs.decimal_ellipse.decimal_ellipse_position.Goals as goal
use Rattle.counter.proofs.decimal_ellipse.decimal_ellipse_position.Goals.{Start}

-- the variables, that each is within its bound, and the two sides as the code computes them
abbrev vs : Start → List Var
vs c =
    let o = c.args.oval in
    let p = c.args.point in
    short 65536 o.m1 ∷ short 65536 o.m2 ∷ short 2000000000 o.c11 ∷ short 2000000000 o.c12 ∷ short 2000000000 o.c22 ∷ short 4096000 o.d2
    ∷ short 65536 p.x ∷ short 65536 p.y ∷ []

known : (c : Start) → All w64 (vs c)
known c = search (in_mag, in_of-positive)

abbrev dx : Ex
dx = var 6 ⊖ var 0

abbrev dy : Ex
dy = var 7 ⊖ var 1

abbrev L : Sum
L = ((var 4 ⊗ dx ⊖ var 3 ⊗ dy) ⊠ (lit 1000000 ⊗ dx)) ⊞ ((var 2 ⊗ dy ⊖ var 3 ⊗ dx) ⊠ (lit 1000000 ⊗ dy))

abbrev R : Sum
R = var 5 ⊠ (var 2 ⊗ var 4 ⊖ var 3 ⊗ var 3)

-- the rule's left side
abbrev F : Ex
F = lit 1000000 ⊗ (var 4 ⊗ (dx ⊗ dx) ⊖ lit 2 ⊗ (var 3 ⊗ (dx ⊗ dy)) ⊕ var 2 ⊗ (dy ⊗ dy))

casts : (c : Start) → Casts w64 (vs c)
casts c = zcasts w64 (vs c) (known c) tt

asks : (c : Start) → SumNeeds (vs c) L × SumNeeds (vs c) R
asks c = (sum_needs (vs c) (known c) L tt, sum_needs (vs c) (known c) R tt)

pub overflow_cast-dx : goal.overflow_cast-dx
overflow_cast-dx c = search (casts (goal.at.overflow_cast-dx c).Start)

pub overflow_cast-dx-2 : goal.overflow_cast-dx-2
overflow_cast-dx-2 c = search (casts (goal.at.overflow_cast-dx-2 c).Start)

pub overflow_sub-dx : goal.overflow_sub-dx
overflow_sub-dx c = search (asks (goal.at.overflow_sub-dx c).Start)

pub overflow_cast-dy : goal.overflow_cast-dy
overflow_cast-dy c = search (casts (goal.at.overflow_cast-dy c).Start)

pub overflow_cast-dy-2 : goal.overflow_cast-dy-2
overflow_cast-dy-2 c = search (casts (goal.at.overflow_cast-dy-2 c).Start)

pub overflow_sub-dy : goal.overflow_sub-dy
overflow_sub-dy c = search (asks (goal.at.overflow_sub-dy c).Start)

pub overflow_cast-p : goal.overflow_cast-p
overflow_cast-p c = search (casts (goal.at.overflow_cast-p c).Start)

pub overflow_cast-q : goal.overflow_cast-q
overflow_cast-q c = search (casts (goal.at.overflow_cast-q c).Start)

pub overflow_cast-r : goal.overflow_cast-r
overflow_cast-r c = search (casts (goal.at.overflow_cast-r c).Start)

pub overflow_mul-r : goal.overflow_mul-r
overflow_mul-r c = search (asks (goal.at.overflow_mul-r c).Start)

pub overflow_mul-q : goal.overflow_mul-q
overflow_mul-q c = search (asks (goal.at.overflow_mul-q c).Start)

pub overflow_sub-r : goal.overflow_sub-r
overflow_sub-r c = search (asks (goal.at.overflow_sub-r c).Start)

pub overflow_mul-dx : goal.overflow_mul-dx
overflow_mul-dx c = search (asks (goal.at.overflow_mul-dx c).Start)

pub overflow_mul-p : goal.overflow_mul-p
overflow_mul-p c = search (asks (goal.at.overflow_mul-p c).Start)

pub overflow_mul-q-2 : goal.overflow_mul-q-2
overflow_mul-q-2 c = search (asks (goal.at.overflow_mul-q-2 c).Start)

pub overflow_sub-p : goal.overflow_sub-p
overflow_sub-p c = search (asks (goal.at.overflow_sub-p c).Start)

pub overflow_mul-dy : goal.overflow_mul-dy
overflow_mul-dy c = search (asks (goal.at.overflow_mul-dy c).Start)

pub overflow_cast-oval : goal.overflow_cast-oval
overflow_cast-oval c = search (casts (goal.at.overflow_cast-oval c).Start)

pub overflow_mul-p-2 : goal.overflow_mul-p-2
overflow_mul-p-2 c = search (asks (goal.at.overflow_mul-p-2 c).Start)

pub overflow_mul-q-3 : goal.overflow_mul-q-3
overflow_mul-q-3 c = search (asks (goal.at.overflow_mul-q-3 c).Start)

pub overflow_sub-p-2 : goal.overflow_sub-p-2
overflow_sub-p-2 c = search (asks (goal.at.overflow_sub-p-2 c).Start)

pub returns : goal.returns
unfolding decimal_ellipse_position
returns c =
    let entry = (goal.at.returns c).Start in
    let o = c.args.oval in
    let p = c.args.point in
    let l =
    plus-is c.plus-left.ensures c.times.ensures c.times-2.ensures
    ∙ sum-gives (vs entry) (known entry) L tt
    ∙ solve (values w64 (vs entry)) (flat L) F tt in
    let r = c.times-right.ensures ∙ sum-gives (vs entry) (known entry) R tt in
    c.position_by.ensures ∙ ap position_by (c.compare.ensures ∙ ap₂ order_of l r)
    ∙ order_sides (decimal_left o.m1 o.m2 o.c11 o.c12 o.c22 p.x p.y) (decimal_right o.c11 o.c12 o.c22 o.d2)
