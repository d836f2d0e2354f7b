-- What the code computes by two words of 64 bits is, modulo 2^128, the sum, the difference or the product.
use Rattle.std.proofs.Common.{◌≡◌, ℕ, ◌+◌, ◌*◌, ◌/◌, ◌%◌, ◌^◌, ◌<◌, Bool, true, false, cond, ltb, [], ◌∷◌, ℤ, pos, ◌-ℤ◌, ◌*ℤ◌, refl, ap, subst, mul-le-mul_right, arith, ltb-false, ltb-true}
use Rattle.integers.specs.Inner.Expressions.{var, lit, ◌⊕◌, ◌⊖◌, ◌⊗◌}
use Rattle.integers.proofs.Solver.{solve}
use Rattle.wide.proofs.CongruenceLaws.{Congruent, mod_by}

-- ---- over words below any base
-- ah and al are the words of a, bh and bl those of b; hr and lr are the words of a result where high and low are other words;
-- c is a carry or a borrow, s and r are signs, 0 or 1
module _ (base : ℕ) where
  below : (high low : ℕ) → high < base → low < base → high * base + low < base * base
  below high low h k = omega (arith, mul-le-mul_right base h)

  sum : (ah al bh bl high low hr c e f : ℕ) → low + c * base ≡ al + bl → high + e * base ≡ ah + bh → hr + f * base ≡ high + c →
      ((ah * base + al) + (bh * base + bl)) + 0 * (base * base) ≡ ((hr * base + low) + (e + f) * (base * base)) + 0
  sum ah al bh bl high low hr c e f h i j = omega (arith, ap (λ (x : ℕ). x * base) i, ap (λ (x : ℕ). x * base) j)

  difference : (ah al bh bl high low hr c e f : ℕ) → low + bl ≡ al + c * base → high + bh ≡ ah + e * base → hr + c ≡ high + f * base →
      (ah * base + al) + (e + f) * (base * base) ≡ ((hr * base + low) + 0 * (base * base)) + (bh * base + bl)
  difference ah al bh bl high low hr c e f h i j = omega (arith, ap (λ (x : ℕ). x * base) i, ap (λ (x : ℕ). x * base) j)

  product : (high low v s carry upper lr t hr q c d : ℕ) →
      upper + q * base ≡ high * v → lr + carry * base ≡ low * v → t + c * base ≡ carry + upper → hr + s * low ≡ t + d * base →
      (high * base + low) * v + (d + s * high) * (base * base) ≡ ((hr * base + lr) + (q + c) * (base * base)) + (high * base + low) * (s * base)
  product high low v s carry upper lr t hr q c d h i j k =
      omega (arith, ap (λ (x : ℕ). x * base) h, ap (λ (x : ℕ). x * base) j, ap (λ (x : ℕ). x * base) k)

  signed_product : (u v s r high low t hr d e : ℕ) → low + high * base ≡ u * v → t + s * v ≡ high + d * base → hr + r * u ≡ t + e * base →
      (u * v + (s * base) * (r * base)) + (d + e) * (base * base)
      ≡ ((hr * base + low) + (s * r) * (base * base)) + ((s * base) * v + u * (r * base))
  signed_product u v s r high low t hr d e h i j = omega (arith, ap (λ (x : ℕ). x * base) i, ap (λ (x : ℕ). x * base) j)

-- ---- words of 64 bits
pub bits_below : (high low : ℕ) → high < 2 ^ 64 → low < 2 ^ 64 → high * 2 ^ 64 + low < 2 ^ 128
bits_below high low h k = below (2 ^ 64) high low h k

split : (n m : ℕ) → m ≡ n % 2 ^ 64 → m + n / 2 ^ 64 * 2 ^ 64 ≡ n
split n m e = omega arith

unsplit : (n m : ℕ) → n % 2 ^ 64 ≡ m → n ≡ m + n / 2 ^ 64 * 2 ^ 64
unsplit n m e = omega arith

join : (n m q : ℕ) → q ≡ n / 2 ^ 64 → m ≡ n % 2 ^ 64 → m + q * 2 ^ 64 ≡ n
join n m q e f = omega arith

-- a carry and a borrow, as the code finds them
pub carried : (a b low c : ℕ) → a < 2 ^ 64 → b < 2 ^ 64 → low ≡ (a + b) % 2 ^ 64 → c ≡ cond (ltb low a) 1 0 → low + c * 2 ^ 64 ≡ a + b
carried a b low c h k e f = choose (ltb low a) refl f
  where
    choose : (t : Bool) → ltb low a ≡ t → c ≡ cond t 1 0 → low + c * 2 ^ 64 ≡ a + b
    choose true g f = let l = ltb-true low a g in omega arith
    choose false g f = let l = ltb-false low a g in omega arith

pub borrowed : (a b low c : ℕ) → low < 2 ^ 64 → b < 2 ^ 64 → (low + b) % 2 ^ 64 ≡ a → c ≡ cond (ltb a b) 1 0 → low + b ≡ a + c * 2 ^ 64
borrowed a b low c h k e f = choose (ltb a b) refl f
  where
    choose : (t : Bool) → ltb a b ≡ t → c ≡ cond t 1 0 → low + b ≡ a + c * 2 ^ 64
    choose true g f = let l = ltb-true a b g in omega arith
    choose false g f = let l = ltb-false a b g in omega arith

-- ---- the operations
pub sum_mod : (ah al bh bl high low hr c : ℕ) → low + c * 2 ^ 64 ≡ al + bl → high ≡ (ah + bh) % 2 ^ 64 → hr ≡ (high + c) % 2 ^ 64 →
    Congruent (pos ((ah * 2 ^ 64 + al) + (bh * 2 ^ 64 + bl))) (pos (hr * 2 ^ 64 + low))
sum_mod ah al bh bl high low hr c h i j =
    let n = (ah * 2 ^ 64 + al) + (bh * 2 ^ 64 + bl) in
    let e = (ah + bh) / 2 ^ 64 in
    let f = (high + c) / 2 ^ 64 in
    let g = sum (2 ^ 64) ah al bh bl high low hr c e f h (split (ah + bh) high i) (split (high + c) hr j) in
    subst (λ (z : ℤ). Congruent z (pos (hr * 2 ^ 64 + low))) (solve (pos n ∷ []) (var 0 ⊖ lit 0) (var 0) tt)
    (mod_by n 0 (hr * 2 ^ 64 + low) 0 (e + f) g)

pub difference_mod : (ah al bh bl high low hr c : ℕ) → low + bl ≡ al + c * 2 ^ 64 → (high + bh) % 2 ^ 64 ≡ ah → (hr + c) % 2 ^ 64 ≡ high →
    Congruent (pos (ah * 2 ^ 64 + al) -ℤ pos (bh * 2 ^ 64 + bl)) (pos (hr * 2 ^ 64 + low))
difference_mod ah al bh bl high low hr c h i j =
    let e = (high + bh) / 2 ^ 64 in
    let f = (hr + c) / 2 ^ 64 in
    mod_by (ah * 2 ^ 64 + al) (bh * 2 ^ 64 + bl) (hr * 2 ^ 64 + low) (e + f) 0
    (difference (2 ^ 64) ah al bh bl high low hr c e f h (unsplit (high + bh) ah i) (unsplit (hr + c) high j))

-- the number of the words high and low, by v - s · 2^64
pub product_mod : (high low v s carry upper lr t hr : ℕ) → carry ≡ low * v / 2 ^ 64 → upper ≡ high * v % 2 ^ 64 → lr ≡ low * v % 2 ^ 64 →
    t ≡ (carry + upper) % 2 ^ 64 → (hr + s * low) % 2 ^ 64 ≡ t →
    Congruent (pos (high * 2 ^ 64 + low) *ℤ (pos v -ℤ pos (s * 2 ^ 64))) (pos (hr * 2 ^ 64 + lr))
product_mod high low v s carry upper lr t hr g h i j k =
    let a = high * 2 ^ 64 + low in
    let q = high * v / 2 ^ 64 in
    let c = (carry + upper) / 2 ^ 64 in
    let d = (hr + s * low) / 2 ^ 64 in
    let e = join (low * v) lr carry g i in
    let f =
    product (2 ^ 64) high low v s carry upper lr t hr q c d (split (high * v) upper h) e (split (carry + upper) t j) (unsplit (hr + s * low) t k) in
    subst (λ (z : ℤ). Congruent z (pos (hr * 2 ^ 64 + lr)))
    (solve (pos a ∷ pos v ∷ pos (s * 2 ^ 64) ∷ []) (var 0 ⊗ var 1 ⊖ var 0 ⊗ var 2) (var 0 ⊗ (var 1 ⊖ var 2)) tt)
    (mod_by (a * v) (a * (s * 2 ^ 64)) (hr * 2 ^ 64 + lr) (d + s * high) (q + c) f)

-- u - s · 2^64 by v - r · 2^64
pub signed-product_mod : (u v s r high low t hr : ℕ) →
    high ≡ u * v / 2 ^ 64 → low ≡ u * v % 2 ^ 64 → (t + s * v) % 2 ^ 64 ≡ high → (hr + r * u) % 2 ^ 64 ≡ t →
    Congruent ((pos u -ℤ pos (s * 2 ^ 64)) *ℤ (pos v -ℤ pos (r * 2 ^ 64))) (pos (hr * 2 ^ 64 + low))
signed-product_mod u v s r high low t hr g h i j =
    let a = s * 2 ^ 64 in
    let b = r * 2 ^ 64 in
    let d = (t + s * v) / 2 ^ 64 in
    let e = (hr + r * u) / 2 ^ 64 in
    let f = signed_product (2 ^ 64) u v s r high low t hr d e (join (u * v) low high g h) (unsplit (t + s * v) high i) (unsplit (hr + r * u) t j) in
    subst (λ (z : ℤ). Congruent z (pos (hr * 2 ^ 64 + low)))
    (solve (pos u ∷ pos v ∷ pos a ∷ pos b ∷ [])
    ((var 0 ⊗ var 1 ⊕ var 2 ⊗ var 3) ⊖ (var 2 ⊗ var 1 ⊕ var 0 ⊗ var 3)) ((var 0 ⊖ var 2) ⊗ (var 1 ⊖ var 3)) tt)
    (mod_by (u * v + a * b) (a * v + u * b) (hr * 2 ^ 64 + low) (d + e) (s * r) f)
