-- The sum that the code makes for an ellipsoid is the left side of its rule less the right.
use mathlib.Core.Path.{◌≡◌}
use mathlib.Core.List.{[], ◌∷◌}
use lib.IntN.{ℤ, pos, ◌+ℤ◌, ◌-ℤ◌, ◌*ℤ◌}
use Rattle.integers.specs.Inner.Expressions.{var, lit, ◌⊕◌, ◌⊖◌, ◌⊗◌}
use Rattle.integers.proofs.Solver.{solve}
use Rattle.plans.specs.Symmetric.{Symmetric, adjugate, determinant3}
use Rattle.plans.proofs.AdjugateTheorems.{a11, a12, a13, a22, a23, a33, det}
use Rattle.counter.specs.Ellipsoid.{form3}

-- gathered by the entries of the adjugate: six products
abbrev pub gathered : Symmetric → ℤ → ℤ → ℤ → ℤ → ℤ
gathered c dx dy dz d2 =
    let a = adjugate c in
    (a.c11 *ℤ (dx *ℤ dx -ℤ d2 *ℤ c.c11) +ℤ a.c22 *ℤ (dy *ℤ dy) +ℤ a.c33 *ℤ (dz *ℤ dz))
    +ℤ (a.c12 *ℤ (pos 2 *ℤ (dx *ℤ dy) -ℤ d2 *ℤ c.c12) +ℤ a.c13 *ℤ (pos 2 *ℤ (dx *ℤ dz) -ℤ d2 *ℤ c.c13) +ℤ a.c23 *ℤ (pos 2 *ℤ (dy *ℤ dz)))

pub gathered-is : (c : Symmetric) (dx dy dz d2 : ℤ) → gathered c dx dy dz d2 ≡ form3 (adjugate c) dx dy dz -ℤ d2 *ℤ determinant3 c
gathered-is c dx dy dz d2 =
    solve (c.c11 ∷ c.c12 ∷ c.c13 ∷ c.c22 ∷ c.c23 ∷ c.c33 ∷ dx ∷ dy ∷ dz ∷ d2 ∷ [])
    (
    (a11 ⊗ (var 6 ⊗ var 6 ⊖ var 9 ⊗ var 0) ⊕ a22 ⊗ (var 7 ⊗ var 7) ⊕ a33 ⊗ (var 8 ⊗ var 8))
    ⊕ (a12 ⊗ (lit 2 ⊗ (var 6 ⊗ var 7) ⊖ var 9 ⊗ var 1) ⊕ a13 ⊗ (lit 2 ⊗ (var 6 ⊗ var 8) ⊖ var 9 ⊗ var 2) ⊕ a23 ⊗ (lit 2 ⊗ (var 7 ⊗ var 8)))
    )
    (
    var 6 ⊗ (a11 ⊗ var 6 ⊕ a12 ⊗ var 7 ⊕ a13 ⊗ var 8)
    ⊕ var 7 ⊗ (a12 ⊗ var 6 ⊕ a22 ⊗ var 7 ⊕ a23 ⊗ var 8)
    ⊕ var 8 ⊗ (a13 ⊗ var 6 ⊕ a23 ⊗ var 7 ⊕ a33 ⊗ var 8)
    ⊖ var 9 ⊗ det
    )
    tt
