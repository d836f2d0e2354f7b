-- A symmetric matrix times its adjugate is the determinant times the identity: the rule of an ellipsoid is 000's with both sides multiplied by the determinant.
use mathlib.Core.Path.{◌≡◌, refl}
use mathlib.Core.List.{List, [], ◌∷◌}
use lib.IntN.{ℤ, pos, negsuc, ◌+ℤ◌, ◌*ℤ◌}
use Rattle.integers.specs.Inner.Expressions.{Ex, var, lit, ◌⊕◌, ◌⊖◌, ◌⊗◌}
use Rattle.integers.proofs.Solver.{solve}
use Rattle.plans.specs.Symmetric.{Symmetric, symmetric, adjugate, determinant3}

-- ---- matrices by row and column

-- one of the three rows or columns
pub data Axis : Type 0 where
  first second third : Axis

-- the entry in a row and a column
abbrev pub at : Symmetric → Axis → Axis → ℤ
at c first first = c.c11
at c first second = c.c12
at c first third = c.c13
at c second first = c.c12
at c second second = c.c22
at c second third = c.c23
at c third first = c.c13
at c third second = c.c23
at c third third = c.c33

-- the entry of the product of two matrices
abbrev pub product_at : Symmetric → Symmetric → Axis → Axis → ℤ
product_at c a i j = at c i first *ℤ at a first j +ℤ at c i second *ℤ at a second j +ℤ at c i third *ℤ at a third j

-- the entry of n times the identity
abbrev pub diagonal_at : ℤ → Axis → Axis → ℤ
diagonal_at n first first = n
diagonal_at n first second = pos 0
diagonal_at n first third = pos 0
diagonal_at n second first = pos 0
diagonal_at n second second = n
diagonal_at n second third = pos 0
diagonal_at n third first = pos 0
diagonal_at n third second = pos 0
diagonal_at n third third = n

-- ---- one worked by hand

pub adjugate_case : adjugate (symmetric (pos 7) (pos 2) (pos 1) (pos 5) (negsuc 0) (pos 3)) ≡ symmetric (pos 14) (negsuc 6) (negsuc 6) (pos 20) (pos 9) (pos 31)
adjugate_case = refl

pub determinant_case : determinant3 (symmetric (pos 7) (pos 2) (pos 1) (pos 5) (negsuc 0) (pos 3)) ≡ pos 77
determinant_case = refl

-- ---- the entries, the cofactors and the determinant as expressions: c11 c12 c13 c22 c23 c33 are the variables 0 to 5

abbrev pub entries_of : Symmetric → List ℤ
entries_of c = c.c11 ∷ c.c12 ∷ c.c13 ∷ c.c22 ∷ c.c23 ∷ c.c33 ∷ []

abbrev pub a11 : Ex
a11 = var 3 ⊗ var 5 ⊖ var 4 ⊗ var 4

abbrev pub a12 : Ex
a12 = var 2 ⊗ var 4 ⊖ var 1 ⊗ var 5

abbrev pub a13 : Ex
a13 = var 1 ⊗ var 4 ⊖ var 2 ⊗ var 3

abbrev pub a22 : Ex
a22 = var 0 ⊗ var 5 ⊖ var 2 ⊗ var 2

abbrev pub a23 : Ex
a23 = var 1 ⊗ var 2 ⊖ var 0 ⊗ var 4

abbrev pub a33 : Ex
a33 = var 0 ⊗ var 3 ⊖ var 1 ⊗ var 1

abbrev pub det : Ex
det = var 0 ⊗ a11 ⊕ var 1 ⊗ a12 ⊕ var 2 ⊗ a13

-- ---- the theorem

pub times-adjugate : (c : Symmetric) (i j : Axis) → product_at c (adjugate c) i j ≡ diagonal_at (determinant3 c) i j
times-adjugate c first first = solve (entries_of c) (var 0 ⊗ a11 ⊕ var 1 ⊗ a12 ⊕ var 2 ⊗ a13) det tt
times-adjugate c first second = solve (entries_of c) (var 0 ⊗ a12 ⊕ var 1 ⊗ a22 ⊕ var 2 ⊗ a23) (lit 0) tt
times-adjugate c first third = solve (entries_of c) (var 0 ⊗ a13 ⊕ var 1 ⊗ a23 ⊕ var 2 ⊗ a33) (lit 0) tt
times-adjugate c second first = solve (entries_of c) (var 1 ⊗ a11 ⊕ var 3 ⊗ a12 ⊕ var 4 ⊗ a13) (lit 0) tt
times-adjugate c second second = solve (entries_of c) (var 1 ⊗ a12 ⊕ var 3 ⊗ a22 ⊕ var 4 ⊗ a23) det tt
times-adjugate c second third = solve (entries_of c) (var 1 ⊗ a13 ⊕ var 3 ⊗ a23 ⊕ var 4 ⊗ a33) (lit 0) tt
times-adjugate c third first = solve (entries_of c) (var 2 ⊗ a11 ⊕ var 4 ⊗ a12 ⊕ var 5 ⊗ a13) (lit 0) tt
times-adjugate c third second = solve (entries_of c) (var 2 ⊗ a12 ⊕ var 4 ⊗ a22 ⊕ var 5 ⊗ a23) (lit 0) tt
times-adjugate c third third = solve (entries_of c) (var 2 ⊗ a13 ⊕ var 4 ⊗ a23 ⊕ var 5 ⊗ a33) det tt
