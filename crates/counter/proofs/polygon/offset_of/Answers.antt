-- `offset_of`: both differences fit.
use mathlib.Core.List.{List, [], ◌∷◌}
use Prim.Native.Nat.{◌+◌}
use lib.IntN.{pos}
use lib.ListN.{get_or}
use mir.Syntax.{w64}
use Rattle.integers.specs.Inner.Expressions.{Ex, var, ◌⊖◌}
use Rattle.integers.specs.Inner.Machine.{Var, short, All, Needs}
use Rattle.integers.proofs.Bounds.{in_mag}
use Rattle.integers.proofs.Overflow.{zneeds, zgives}
use Rattle.counter.proofs.polygon.offset_of.Goals as goal
use Rattle.counter.proofs.polygon.offset_of.Goals.{Start}

-- the variables, that each is within its bound, and the two differences
abbrev vs : Start → List Var
vs c =
    let a = c.args in
    short 65536 (get_or a.v.now a.i (pos 0)) ∷ short 65536 (get_or a.v.now (a.i + 1) (pos 0)) ∷ short 65536 a.point.x ∷ short 65536 a.point.y ∷ []

known : (c : Start) → All w64 (vs c)
known c =
    let a = c.args in
    let p = c.requires.0.on_scale in
    (in_mag 65536 _ (p a.i), (in_mag 65536 _ (p (a.i + 1)), (in_mag 65536 _ c.requires.2.0, (in_mag 65536 _ c.requires.2.1, tt))))

abbrev Right : Ex
Right = var 2 ⊖ var 0

abbrev Up : Ex
Up = var 3 ⊖ var 1

asks : (c : Start) → Needs w64 (vs c) Right × Needs w64 (vs c) Up
asks c = (zneeds w64 (vs c) (known c) Right tt, zneeds w64 (vs c) (known c) Up tt)

pub overflow_cast-right : goal.overflow_cast-right
overflow_cast-right c = search (asks (goal.at.overflow_cast-right c).Start)

pub overflow_cast-right-2 : goal.overflow_cast-right-2
overflow_cast-right-2 c = search (asks (goal.at.overflow_cast-right-2 c).Start)

pub overflow_sub-right : goal.overflow_sub-right
overflow_sub-right c = search (asks (goal.at.overflow_sub-right c).Start)

pub overflow_cast-up : goal.overflow_cast-up
overflow_cast-up c = search (asks (goal.at.overflow_cast-up c).Start)

pub overflow_cast-up-2 : goal.overflow_cast-up-2
overflow_cast-up-2 c = search (asks (goal.at.overflow_cast-up-2 c).Start)

pub overflow_sub-up : goal.overflow_sub-up
overflow_sub-up c = search (asks (goal.at.overflow_sub-up c).Start)

pub returns : goal.returns
returns c =
    let entry = (goal.at.returns c).Start in
    record { right_is = zgives w64 (vs entry) (known entry) Right tt; up_is = zgives w64 (vs entry) (known entry) Up tt }
