-- `scaled`: the low word's product, its carry and the high word's product in the high word, less the low word where b is below 0.
use Rattle.std.proofs.Common.{◌≡◌, ℕ, ◌+◌, ◌*◌, ◌%◌, ◌^◌, ℤ, pos, ◌-ℤ◌, ◌*ℤ◌, sym, ap, ◌∙◌, subst, to_z-of_z, rules}
use Rattle.wide.specs.Inner.Values.{bits}
use Rattle.wide.proofs.CongruenceLaws.{Congruent, mod_mul, mod_refl, mod_trans}
use Rattle.wide.proofs.WordLaws.{product_mod}
use Rattle.wide.proofs.SignLaws.{sign, when_below, by_bits}
use Rattle.wide.proofs.ValueLaws.{Sized, value_mod, value-wrapped}
use Rattle.wide.proofs.scaled.Goals as goal
use Rattle.wide.proofs.scaled.Goals.{Start}

a-sized : (c : Start) → Sized c.args.a
a-sized c = search rules

pub returns : goal.returns
returns c =
    let a = c.args.a in
    let b = c.args.b in
    let v = c.bits_of-v in
    let carry = c.product_high-carry in
    let upper = c.product_low-upper in
    let low = c.product_low-low in
    let sum = c.wrapping_add_u64-sum in
    let result = c.wrapping_sub_u64 in
    let v-is = simp (to_z-of_z, c.ranges.b) at v.ensures in
    let excess-is = when_below b a.low c.ranges.b c.when-excess.ensures in
    let high_is = subst (λ (n : ℕ). (result.result + n) % 2 ^ 64 ≡ sum.result) excess-is result.ensures.value in
    let product_is =
    product_mod a.high a.low v.result (sign b) carry.result upper.result low.result sum.result result.result
    carry.ensures upper.ensures low.ensures sum.ensures.value high_is in
    let b-is = by_bits b c.ranges.b ∙ ap (λ (n : ℕ). pos n -ℤ pos (sign b * 2 ^ 64)) (sym v-is) in
    let multiple-is = subst (λ (z : ℤ). Congruent (pos (bits a) *ℤ z) (pos (result.result * 2 ^ 64 + low.result))) (sym b-is) product_is in
    value-wrapped (search rules) (mod_trans (mod_mul (value_mod (a-sized c.before.before.before.before.before.before.before)) (mod_refl b)) multiple-is)
