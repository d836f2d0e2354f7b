-- `side` meets its contract: the point is within 2^17 of a vertex, a product of two such numbers within 2^34.
use mathlib.Core.List.{List, [], ◌∷◌}
use mir.Syntax.{w64}
use Rattle.integers.specs.Inner.Expressions.{Ex, var, ◌⊖◌, ◌⊗◌}
use Rattle.integers.specs.Inner.Machine.{Var, own, All, Needs}
use Rattle.integers.proofs.Overflow.{zneeds, zgives}
use borrow.Author.Rules.{rules}
use Rattle.counter.proofs.polygon.side.Goals as goal
use Rattle.counter.proofs.polygon.side.Goals.{Start}

-- the variables, that each is within its bound, and the expression
abbrev vs : Start → List Var
vs c =
    let a = c.args.a in
    let b = c.args.b in
    own 131072 a.right ∷ own 131072 a.up ∷ own 131072 b.right ∷ own 131072 b.up ∷ []

known : (c : Start) → All w64 (vs c)
known c = search rules

abbrev E : Ex
E = var 0 ⊗ var 3 ⊖ var 2 ⊗ var 1

asks : (c : Start) → Needs w64 (vs c) E
asks c = zneeds w64 (vs c) (known c) E tt

pub overflow_mul-result : goal.overflow_mul-result
overflow_mul-result c = search (asks (goal.at.overflow_mul-result c).Start)

pub overflow_mul-result-2 : goal.overflow_mul-result-2
overflow_mul-result-2 c = search (asks (goal.at.overflow_mul-result-2 c).Start)

pub overflow_sub-result : goal.overflow_sub-result
overflow_sub-result c = search (asks (goal.at.overflow_sub-result c).Start)

pub returns : goal.returns
returns c =
    let entry = (goal.at.returns c).Start in
    zgives w64 (vs entry) (known entry) E tt
