-- What `value` and `wrapped` say, in other words: a value is the high word, signed, times 2^64 and the low word;
-- what a number wraps to is in the range of 128 bits and differs from it by a multiple of 2^128.
use Rattle.std.proofs.Common.{◌≡◌, ℕ, suc, ◌+◌, ◌-◌, ◌*◌, ◌/◌, ◌%◌, ◌^◌, ◌<◌, Bool, true, false, ltb, [], ◌∷◌, ℤ, pos, negsuc, ◌+ℤ◌, ◌-ℤ◌, ◌*ℤ◌, sym, refl, ap, ◌∙◌, mod-lt, div-add-mod', arith, ltb→lt, w64, SFits, to_z, ltb-false, ltb-true}
use mir.Syntax.{w128}
use mir.Val.{sel}
use mir.Facts.{sfits_to_z}
use Rattle.integers.specs.Inner.Expressions.{var, ◌⊕◌, ◌⊖◌, ◌⊗◌}
use Rattle.integers.proofs.Parts.{add_ud, mul_ud}
use Rattle.integers.proofs.Order.{zarith}
use Rattle.integers.proofs.Solver.{solve}
use Rattle.wide.specs.declared.Wide.{Wide}
use Rattle.wide.specs.Inner.Values.{value, residue, wrapped}
use Rattle.wide.proofs.CongruenceLaws.{Congruent, mod_bits, mod_trans, mod_sym}
use Rattle.wide.proofs.ValueLaws.{Sized}
use Rattle.wide.proofs.OrderLaws.{turned}

-- ---- the residue, over any modulus
module _ (modulus : ℕ) (some : 0 < modulus) where
  split-pos : (n : ℕ) → pos n ≡ pos (n % modulus) +ℤ pos (n / modulus) *ℤ pos modulus
  split-pos n = let e : n ≡ n % modulus + n / modulus * modulus = omega (arith, div-add-mod' n modulus) in ap pos e

  split-neg : (n : ℕ) → negsuc n ≡ pos (modulus - suc (n % modulus)) +ℤ negsuc (n / modulus) *ℤ pos modulus
  split-neg n =
      let a = div-add-mod' n modulus in
      let b = mod-lt n {m = modulus} some in
      omega (zarith, add_ud (pos (modulus - suc (n % modulus))) (negsuc (n / modulus) *ℤ pos modulus), mul_ud (negsuc (n / modulus)) (pos modulus))

  small-neg : (n : ℕ) → modulus - suc (n % modulus) < modulus
  small-neg n = omega arith

above_0 : 0 < 2 ^ 128
above_0 = ltb→lt 0 (2 ^ 128) tt

residue_mod : (z : ℤ) → Congruent z (pos (residue z))
residue_mod (pos n) = record { times = pos (n / 2 ^ 128); is = split-pos (2 ^ 128) above_0 n }
residue_mod (negsuc n) = record { times = negsuc (n / 2 ^ 128); is = split-neg (2 ^ 128) above_0 n }

residue-below : (z : ℤ) → residue z < 2 ^ 128
residue-below (pos n) = mod-lt n {m = 2 ^ 128} above_0
residue-below (negsuc n) = small-neg (2 ^ 128) above_0 n

-- ---- what a number wraps to
pub wrapped_mod : (z : ℤ) → Congruent z (wrapped z)
unfolding wrapped
wrapped_mod z = mod_trans (residue_mod z) (mod_sym (mod_bits (residue z) (residue-below z)))

pub wrapped_range : (z : ℤ) → SFits w128 (wrapped z)
unfolding wrapped
wrapped_range z = sfits_to_z (record { fits = residue-below z })

-- ---- a value by its words
word-turned : (n x : ℕ) → n < 2 ^ 64 → x ≡ (n + 2 ^ 63) % 2 ^ 64 → to_z w64 n +ℤ pos (2 ^ 63) ≡ pos x
word-turned n x h e = choose (ltb n (2 ^ 63)) refl
  where
    choose : (t : Bool) → ltb n (2 ^ 63) ≡ t → sel t (pos n) (negsuc (2 ^ 64 - suc n)) +ℤ pos (2 ^ 63) ≡ pos x
    choose true g = let k = ltb-true n (2 ^ 63) g in omega (zarith, add_ud (pos n) (pos (2 ^ 63)))
    choose false g = let k = ltb-false n (2 ^ 63) g in omega (zarith, add_ud (negsuc (2 ^ 64 - suc n)) (pos (2 ^ 63)))

pub value-words : (w : Wide) → Sized w → value w ≡ to_z w64 w.high *ℤ pos (2 ^ 64) +ℤ pos w.low
unfolding value
value-words w s =
    let x = (w.high + 2 ^ 63) % 2 ^ 64 in
    let h = to_z w64 w.high in
    let e = turned w.high w.low x s.high_fits s.low_fits refl in
    let f = word-turned w.high x s.high_fits refl in
    solve (value w ∷ pos (2 ^ 127) ∷ []) (var 0) ((var 0 ⊕ var 1) ⊖ var 1) tt
    ∙ ap (λ (z : ℤ). z -ℤ pos (2 ^ 127)) (e ∙ ap (λ (z : ℤ). z *ℤ pos (2 ^ 64) +ℤ pos w.low) (sym f))
    ∙ solve (h ∷ pos (2 ^ 63) ∷ pos (2 ^ 64) ∷ pos w.low ∷ []) (((var 0 ⊕ var 1) ⊗ var 2 ⊕ var 3) ⊖ var 1 ⊗ var 2) (var 0 ⊗ var 2 ⊕ var 3) tt
