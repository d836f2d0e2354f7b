-- A minor of numbers of 32 bits fits 64: a product of two is at most 2^62 and above −2^62.
use Prim.Native.Nat.{ℕ, ◌*◌, ◌≤◌, suc}
use native.Mathlib.Nat.{mul-le-mul}
use native.Mathlib.Omega.{arith}
use lib.IntN.{ℤ, pos, negsuc, ◌-ℤ◌, ◌*ℤ◌}
use lib.Signed.{◌≤ℤ◌}
use mir.Syntax.{w32, w64}
use mir.Val.{SFits}
use Rattle.integers.proofs.Parts.{sub_ℤ_ud, neg-up, neg-dn}
use Rattle.integers.proofs.Order.{zarith}
use Rattle.integers.proofs.Bounds.{in_fit, in_mul, in_high, in_of_range, fit}

-- of numbers of different signs: −2^31 is met by 2^31 − 1 at most
product_small : (m n : ℕ) → m ≤ 2147483647 → n ≤ 2147483648 → m * n ≤ 4611686018427387903
product_small m n h k = let l : m * n ≤ 2147483647 * 2147483648 = mul-le-mul h k in omega arith

product-above : (a b : ℤ) → SFits w32 a → SFits w32 b → negsuc 4611686018427387902 ≤ℤ (a *ℤ b)
product-above (pos m) (pos n) f g = record { le = tt }
product-above (pos m) (negsuc n) f g =
    let l = product_small m (suc n) (let h = f.sfits in omega arith) (let h = g.sfits in omega arith) in
    omega (zarith, neg-up (pos (m * suc n)), neg-dn (pos (m * suc n)))
product-above (negsuc m) (pos n) f g =
    let l = product_small n (suc m) (let h = g.sfits in omega arith) (let h = f.sfits in omega arith) in
    omega (zarith, neg-up (pos (suc m * n)), neg-dn (pos (suc m * n)))
product-above (negsuc m) (negsuc n) f g = record { le = tt }

pub minor_fits : {a b c d : ℤ} → SFits w32 a → SFits w32 b → SFits w32 c → SFits w32 d → SFits w64 (a *ℤ d -ℤ b *ℤ c)
minor_fits {a} {b} {c} {d} fa fb fc fd =
    let x = a *ℤ d in
    let y = b *ℤ c in
    let x-low = product-above a d fa fd in
    let y-low = product-above b c fb fc in
    let x-high = in_high (in_mul (in_fit w32 fa) (in_fit w32 fd)) in
    let y-high = in_high (in_mul (in_fit w32 fb) (in_fit w32 fc)) in
    fit {n = 9223372036854775807} tt
    (in_of_range 9223372036854775807 (x -ℤ y) (omega (zarith, sub_ℤ_ud x y)) (omega (zarith, sub_ℤ_ud x y)))
