-- `ellipse_position` meets its contract: every part of the two sides is below 2^62.
use mathlib.Core.Path.{sym, ap₂, ◌∙◌}
use mathlib.Core.List.{List, [], ◌∷◌}
use lib.IntN.{ℤ, ◌-ℤ◌, ◌*ℤ◌}
use lib.Signed.{lt_z}
use mir.Syntax.{w64}
use Rattle.integers.specs.Inner.Expressions.{Ex, var, lit, ◌⊕◌, ◌⊖◌, ◌⊗◌}
use Rattle.integers.specs.Inner.Machine.{Var, short, All, Needs}
use Rattle.integers.proofs.Bounds.{in_mag, in_of-positive}
use Rattle.integers.proofs.Overflow.{zneeds, zgives}
use Rattle.counter.specs.Ellipse.{form, determinant}
use Rattle.counter.specs.Positions.{ellipse_position}
use Rattle.counter.proofs.PositionLaws.{sides_less, sides_more, sides_equal}
use Rattle.counter.proofs.ellipse.ellipse_position.Goals as goal
use Rattle.counter.proofs.ellipse.ellipse_position.Goals.{Start}

-- the variables, that each is within its bound, and the two sides
abbrev vs : Start → List Var
vs c =
    let o = c.args.oval in
    let p = c.args.point in
    short 65536 o.m1 ∷ short 65536 o.m2 ∷ short 16777216 o.c11 ∷ short 16777216 o.c12 ∷ short 16777216 o.c22 ∷ short 4096 o.d2
    ∷ short 65536 p.x ∷ short 65536 p.y ∷ []

known : (c : Start) → All w64 (vs c)
known c = search (in_mag, in_of-positive)

abbrev dx : Ex
dx = var 6 ⊖ var 0

abbrev dy : Ex
dy = var 7 ⊖ var 1

abbrev L : Ex
L = var 4 ⊗ (dx ⊗ dx) ⊖ lit 2 ⊗ (var 3 ⊗ (dx ⊗ dy)) ⊕ var 2 ⊗ (dy ⊗ dy)

abbrev R : Ex
R = var 5 ⊗ (var 2 ⊗ var 4 ⊖ var 3 ⊗ var 3)

asks : (c : Start) → Needs w64 (vs c) L × Needs w64 (vs c) R
asks c = (zneeds w64 (vs c) (known c) L tt, zneeds w64 (vs c) (known c) R tt)

pub overflow_cast-dx : goal.overflow_cast-dx
overflow_cast-dx c = search (asks (goal.at.overflow_cast-dx c).Start)

pub overflow_cast-dx-2 : goal.overflow_cast-dx-2
overflow_cast-dx-2 c = search (asks (goal.at.overflow_cast-dx-2 c).Start)

pub overflow_sub-dx : goal.overflow_sub-dx
overflow_sub-dx c = search ((asks (goal.at.overflow_sub-dx c).Start).0)

pub overflow_cast-dy : goal.overflow_cast-dy
overflow_cast-dy c = search (asks (goal.at.overflow_cast-dy c).Start)

pub overflow_cast-dy-2 : goal.overflow_cast-dy-2
overflow_cast-dy-2 c = search (asks (goal.at.overflow_cast-dy-2 c).Start)

pub overflow_sub-dy : goal.overflow_sub-dy
overflow_sub-dy c = search (asks (goal.at.overflow_sub-dy c).Start)

pub overflow_cast-p : goal.overflow_cast-p
overflow_cast-p c = search (asks (goal.at.overflow_cast-p c).Start)

pub overflow_cast-q : goal.overflow_cast-q
overflow_cast-q c = search (asks (goal.at.overflow_cast-q c).Start)

pub overflow_cast-r : goal.overflow_cast-r
overflow_cast-r c = search (asks (goal.at.overflow_cast-r c).Start)

pub overflow_mul-form : goal.overflow_mul-form
overflow_mul-form c = search (asks (goal.at.overflow_mul-form c).Start)

pub overflow_mul-form-2 : goal.overflow_mul-form-2
overflow_mul-form-2 c = search (asks (goal.at.overflow_mul-form-2 c).Start)

pub overflow_mul-form-3 : goal.overflow_mul-form-3
overflow_mul-form-3 c = search ((asks (goal.at.overflow_mul-form-3 c).Start).0)

pub overflow_mul-form-4 : goal.overflow_mul-form-4
overflow_mul-form-4 c = search (asks (goal.at.overflow_mul-form-4 c).Start)

pub overflow_mul-form-5 : goal.overflow_mul-form-5
overflow_mul-form-5 c = search (asks (goal.at.overflow_mul-form-5 c).Start)

pub overflow_sub-form : goal.overflow_sub-form
overflow_sub-form c = search (asks (goal.at.overflow_sub-form c).Start)

pub overflow_mul-form-6 : goal.overflow_mul-form-6
overflow_mul-form-6 c = search (asks (goal.at.overflow_mul-form-6 c).Start)

pub overflow_mul-form-7 : goal.overflow_mul-form-7
overflow_mul-form-7 c = search (asks (goal.at.overflow_mul-form-7 c).Start)

pub overflow_add-form : goal.overflow_add-form
overflow_add-form c = search (asks (goal.at.overflow_add-form c).Start)

pub overflow_cast-limit : goal.overflow_cast-limit
overflow_cast-limit c = search (asks (goal.at.overflow_cast-limit c).Start)

pub overflow_mul-limit : goal.overflow_mul-limit
overflow_mul-limit c = search (asks (goal.at.overflow_mul-limit c).Start)

pub overflow_mul-limit-2 : goal.overflow_mul-limit-2
overflow_mul-limit-2 c = search (asks (goal.at.overflow_mul-limit-2 c).Start)

pub overflow_sub-limit : goal.overflow_sub-limit
overflow_sub-limit c = search (asks (goal.at.overflow_sub-limit c).Start)

pub overflow_mul-limit-3 : goal.overflow_mul-limit-3
overflow_mul-limit-3 c = search (asks (goal.at.overflow_mul-limit-3 c).Start)

-- the two sides of the rule
abbrev left : Start → ℤ
left c = let o = c.args.oval in let p = c.args.point in form o.c11 o.c12 o.c22 (p.x -ℤ o.m1) (p.y -ℤ o.m2)

abbrev right : Start → ℤ
right c = let o = c.args.oval in o.d2 *ℤ determinant o.c11 o.c12 o.c22

pub returns-then-form-limit : goal.returns-then-form-limit
unfolding ellipse_position
returns-then-form-limit c =
    let entry = (goal.at.returns-then-form-limit c).Start in
    let l = zgives w64 (vs entry) (known entry) L tt in
    let r = zgives w64 (vs entry) (known entry) R tt in
    sides_less (left entry) (right entry) (sym (ap₂ lt_z l r) ∙ c.if-form-limit.true)

pub returns-then-limit-form : goal.returns-then-limit-form
unfolding ellipse_position
returns-then-limit-form c =
    let entry = (goal.at.returns-then-limit-form c).Start in
    let l = zgives w64 (vs entry) (known entry) L tt in
    let r = zgives w64 (vs entry) (known entry) R tt in
    sides_more (left entry) (right entry) (sym (ap₂ lt_z r l) ∙ c.if-limit-form.true)

pub returns : goal.returns
unfolding ellipse_position
returns c =
    let entry = (goal.at.returns c).Start in
    let l = zgives w64 (vs entry) (known entry) L tt in
    let r = zgives w64 (vs entry) (known entry) R tt in
    sides_equal (left entry) (right entry) (sym (ap₂ lt_z l r) ∙ c.if-form-limit.false) (sym (ap₂ lt_z r l) ∙ c.if-limit-form.false)
