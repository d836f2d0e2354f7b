-- Symmetric matrices of three rows: the determinant, and the adjugate, with which the rule of an ellipsoid is written without a division.
use Rattle.std.specs.Prelude.{ℕ, ◌+◌, ℤ, ◌+ℤ◌, ◌-ℤ◌, ◌*ℤ◌}

-- the entries on and above the diagonal; the rows are c11 c12 c13, c12 c22 c23 and c13 c23 c33
pub record Symmetric : Type 0 where
  pub c11 : ℤ
  pub c12 : ℤ
  pub c13 : ℤ
  pub c22 : ℤ
  pub c23 : ℤ
  pub c33 : ℤ

abbrev pub symmetric : ℤ → ℤ → ℤ → ℤ → ℤ → ℤ → Symmetric
symmetric c11 c12 c13 c22 c23 c33 = record { c11 = c11; c12 = c12; c13 = c13; c22 = c22; c23 = c23; c33 = c33 }

-- the matrix whose entries stand in this order among other numbers, from a place on
abbrev pub symmetric_from : (ℕ → ℤ) → ℕ → Symmetric
symmetric_from number at = symmetric (number at) (number (at + 1)) (number (at + 2)) (number (at + 3)) (number (at + 4)) (number (at + 5))

-- the matrix of the cofactors, which is symmetric too; a matrix times its adjugate is the determinant times the identity (`times-adjugate` in proofs/)
abbrev pub adjugate : Symmetric → Symmetric
adjugate c =
    record {
      c11 = c.c22 *ℤ c.c33 -ℤ c.c23 *ℤ c.c23;
      c12 = c.c13 *ℤ c.c23 -ℤ c.c12 *ℤ c.c33;
      c13 = c.c12 *ℤ c.c23 -ℤ c.c13 *ℤ c.c22;
      c22 = c.c11 *ℤ c.c33 -ℤ c.c13 *ℤ c.c13;
      c23 = c.c12 *ℤ c.c13 -ℤ c.c11 *ℤ c.c23;
      c33 = c.c11 *ℤ c.c22 -ℤ c.c12 *ℤ c.c12;
    }

-- the determinant, by the cofactors of the first row
abbrev pub determinant3 : Symmetric → ℤ
determinant3 c = c.c11 *ℤ (adjugate c).c11 +ℤ c.c12 *ℤ (adjugate c).c12 +ℤ c.c13 *ℤ (adjugate c).c13
