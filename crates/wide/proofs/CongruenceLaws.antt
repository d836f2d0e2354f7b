-- Integers modulo 2^128: sums, differences and products of congruent numbers are congruent, and what a number wraps to.
use Rattle.std.proofs.Common.{◌≡◌, ℕ, suc, ◌+◌, ◌-◌, ◌*◌, ◌/◌, ◌%◌, ◌^◌, ◌<◌, Bool, true, false, ltb, [], ◌∷◌, ℤ, pos, negsuc, ◌+ℤ◌, ◌-ℤ◌, ◌*ℤ◌, neg_ℤ, sym, ap, ◌∙◌, ap₂, lt_of_lt_of_le, mod-lt, mod-eq_of_lt, div-add-mod', arith, leb→le, to_z-of_z, SFits, to_z}
use native.Mathlib.Nat.{add-mul-mod_self_right}
use mir.Syntax.{w128}
use mir.Val.{sel}
use Rattle.integers.specs.Inner.Parts.{up, dn}
use Rattle.integers.specs.Inner.Expressions.{var, lit, neg, ◌⊕◌, ◌⊖◌, ◌⊗◌}
use Rattle.integers.proofs.Parts.{add_ud, sub_ℤ_ud, mul_ud}
use Rattle.integers.proofs.Order.{zarith}
use Rattle.integers.proofs.Solver.{solve}
use Rattle.wide.specs.Inner.Values.{residue, wrapped}

-- z and n differ by a multiple of 2^128
pub record Congruent (z n : ℤ) : Type 0 where
  pub times : ℤ
  pub is : z ≡ n +ℤ times *ℤ pos (2 ^ 128)

-- ---- sums, differences and products
pub mod_add : {x y m n : ℤ} → Congruent x m → Congruent y n → Congruent (x +ℤ y) (m +ℤ n)
mod_add {m = m} {n = n} p q =
    record {
      times = p.times +ℤ q.times;
      is =
          ap₂ ◌+ℤ◌ p.is q.is
          ∙ solve (m ∷ n ∷ p.times ∷ q.times ∷ pos (2 ^ 128) ∷ [])
          ((var 0 ⊕ var 2 ⊗ var 4) ⊕ (var 1 ⊕ var 3 ⊗ var 4)) ((var 0 ⊕ var 1) ⊕ (var 2 ⊕ var 3) ⊗ var 4) tt;
    }

pub mod_sub : {x y m n : ℤ} → Congruent x m → Congruent y n → Congruent (x -ℤ y) (m -ℤ n)
mod_sub {m = m} {n = n} p q =
    record {
      times = p.times -ℤ q.times;
      is =
          ap₂ ◌-ℤ◌ p.is q.is
          ∙ solve (m ∷ n ∷ p.times ∷ q.times ∷ pos (2 ^ 128) ∷ [])
          ((var 0 ⊕ var 2 ⊗ var 4) ⊖ (var 1 ⊕ var 3 ⊗ var 4)) ((var 0 ⊖ var 1) ⊕ (var 2 ⊖ var 3) ⊗ var 4) tt;
    }

pub mod_mul : {x y m n : ℤ} → Congruent x m → Congruent y n → Congruent (x *ℤ y) (m *ℤ n)
mod_mul {m = m} {n = n} p q =
    record {
      times = (m *ℤ q.times +ℤ p.times *ℤ n) +ℤ (p.times *ℤ q.times) *ℤ pos (2 ^ 128);
      is =
          ap₂ ◌*ℤ◌ p.is q.is
          ∙ solve (m ∷ n ∷ p.times ∷ q.times ∷ pos (2 ^ 128) ∷ [])
          ((var 0 ⊕ var 2 ⊗ var 4) ⊗ (var 1 ⊕ var 3 ⊗ var 4))
          (var 0 ⊗ var 1 ⊕ ((var 0 ⊗ var 3 ⊕ var 2 ⊗ var 1) ⊕ (var 2 ⊗ var 3) ⊗ var 4) ⊗ var 4) tt;
    }

pub mod_refl : (z : ℤ) → Congruent z z
mod_refl z = record { times = pos 0; is = solve (z ∷ pos (2 ^ 128) ∷ []) (var 0) (var 0 ⊕ lit 0 ⊗ var 1) tt }

pub mod_sym : {x y : ℤ} → Congruent x y → Congruent y x
mod_sym {y = y} p =
    record {
      times = neg_ℤ p.times;
      is =
          solve (y ∷ p.times ∷ pos (2 ^ 128) ∷ []) (var 0) ((var 0 ⊕ var 1 ⊗ var 2) ⊕ neg (var 1) ⊗ var 2) tt
          ∙ ap (λ (z : ℤ). z +ℤ neg_ℤ p.times *ℤ pos (2 ^ 128)) (sym p.is);
    }

pub mod_trans : {x y z : ℤ} → Congruent x y → Congruent y z → Congruent x z
mod_trans {z = z} p q =
    record {
      times = q.times +ℤ p.times;
      is =
          p.is
          ∙ ap (λ (n : ℤ). n +ℤ p.times *ℤ pos (2 ^ 128)) q.is
          ∙ solve (z ∷ q.times ∷ p.times ∷ pos (2 ^ 128) ∷ []) ((var 0 ⊕ var 1 ⊗ var 3) ⊕ var 2 ⊗ var 3) (var 0 ⊕ (var 1 ⊕ var 2) ⊗ var 3) tt;
    }

-- ---- over any modulus, since `omega` reads no numeral past 38 digits
module _ (modulus : ℕ) where
  cut : (m n k j : ℕ) → n < modulus → m + k * modulus ≡ n + j * modulus → m % modulus ≡ n
  cut m n k j h e =
      sym (add-mul-mod_self_right m k modulus) ∙ ap (λ (x : ℕ). x % modulus) e ∙ add-mul-mod_self_right n j modulus ∙ mod-eq_of_lt h

  cut-pos : (m n k j : ℕ) → n < modulus → m + k * modulus ≡ 0 + (n + j * modulus) → m % modulus ≡ n
  cut-pos m n k j h e = cut m n k j h (omega arith)

  cut-neg : (m n k j : ℕ) → n < modulus → 0 + k * modulus ≡ suc m + (n + j * modulus) → modulus - suc (m % modulus) ≡ n
  cut-neg m n k j h e =
      let a = div-add-mod' m modulus in
      let b = mod-lt m {m = modulus} (omega arith) in
      let f : n + (j + (m / modulus + 1)) * modulus ≡ (modulus - suc (m % modulus)) + k * modulus = omega arith in
      sym (cut n (modulus - suc (m % modulus)) (j + (m / modulus + 1)) k (omega arith) f) ∙ mod-eq_of_lt h

  by_parts : (z k : ℤ) (n : ℕ) → z ≡ pos n +ℤ k *ℤ pos modulus → up z + dn k * modulus ≡ dn z + (n + up k * modulus)
  by_parts z k n e = omega (zarith, add_ud (pos n) (k *ℤ pos modulus), mul_ud k (pos modulus))

  -- a difference of two natural numbers
  difference : (p q r k j : ℕ) → p + k * modulus ≡ (r + j * modulus) + q → pos p -ℤ pos q ≡ pos r +ℤ (pos j -ℤ pos k) *ℤ pos modulus
  difference p q r k j e =
      omega (
        zarith,
        sub_ℤ_ud (pos p) (pos q),
        add_ud (pos r) ((pos j -ℤ pos k) *ℤ pos modulus),
        mul_ud (pos j -ℤ pos k) (pos modulus),
        ap (λ (x : ℕ). x * modulus) (sub_ℤ_ud (pos j) (pos k)),
      )

  -- a negative number and its bits
  complement : (n : ℕ) → n < modulus → negsuc (modulus - suc n) ≡ pos n +ℤ negsuc 0 *ℤ pos modulus
  complement n h = omega (zarith, add_ud (pos n) (negsuc 0 *ℤ pos modulus), mul_ud (negsuc 0) (pos modulus))

-- ---- bits and what they are read as

-- by an equation of ℕ
pub mod_by : (p q r k j : ℕ) → p + k * 2 ^ 128 ≡ (r + j * 2 ^ 128) + q → Congruent (pos p -ℤ pos q) (pos r)
mod_by p q r k j e = record { times = pos j -ℤ pos k; is = difference (2 ^ 128) p q r k j e }

pub mod_bits : (n : ℕ) → n < 2 ^ 128 → Congruent (to_z w128 n) (pos n)
mod_bits n h = choose (ltb n (2 ^ 127))
  where
    choose : (t : Bool) → Congruent (sel t (pos n) (negsuc (2 ^ 128 - suc n))) (pos n)
    choose true = mod_refl (pos n)
    choose false = record { times = negsuc 0; is = complement (2 ^ 128) n h }

-- ---- what a number wraps to
residue_by : (z k : ℤ) (n : ℕ) → n < 2 ^ 128 → up z + dn k * 2 ^ 128 ≡ dn z + (n + up k * 2 ^ 128) → residue z ≡ n
residue_by (pos m) k n h e = cut-pos (2 ^ 128) m n (dn k) (up k) h e
residue_by (negsuc m) k n h e = cut-neg (2 ^ 128) m n (dn k) (up k) h e

-- bits that are congruent to z are read as what z wraps to
pub wrapped-is : {z : ℤ} (n : ℕ) → n < 2 ^ 128 → Congruent z (pos n) → to_z w128 n ≡ wrapped z
unfolding wrapped
wrapped-is {z} n h p = ap (to_z w128) (sym (residue_by z p.times n h (by_parts (2 ^ 128) z p.times n p.is)))

below : {n : ℕ} → n < 2 ^ 127 → n < 2 ^ 128
below h = lt_of_lt_of_le h (leb→le (2 ^ 127) (2 ^ 128) tt)

-- a number that fits stays as it is
pub wrapped-fits : {z : ℤ} → SFits w128 z → wrapped z ≡ z
unfolding wrapped
wrapped-fits {z = pos n} f = ap (to_z w128) (mod-eq_of_lt (below f.sfits)) ∙ to_z-of_z f
wrapped-fits {z = negsuc n} f = ap (λ (x : ℕ). to_z w128 (2 ^ 128 - suc x)) (mod-eq_of_lt (below f.sfits)) ∙ to_z-of_z f
