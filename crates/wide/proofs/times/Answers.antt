-- `times`: the product of the bits, less 2^64 times the bits of each whose other is below 0; no product of 64 bits passes 128.
use Rattle.std.proofs.Common.{◌≡◌, ℕ, ◌+◌, ◌*◌, ◌%◌, ◌^◌, ℤ, pos, ◌-ℤ◌, ◌*ℤ◌, sym, ap, ◌∙◌, subst, ap₂, to_z-of_z, w64, rules}
use Rattle.integers.proofs.Bounds.{in_fit, in_mul, fit}
use Rattle.wide.proofs.CongruenceLaws.{Congruent, wrapped-fits}
use Rattle.wide.proofs.WordLaws.{signed-product_mod}
use Rattle.wide.proofs.SignLaws.{sign, when_below, by_bits}
use Rattle.wide.proofs.ValueLaws.{value-wrapped}
use Rattle.wide.proofs.times.Goals as goal

pub returns : goal.returns
returns c =
    let a = c.args.a in
    let b = c.args.b in
    let u = c.bits_of-u in
    let v = c.bits_of-v in
    let high = c.product_high-high in
    let low = c.product_low-low in
    let less = c.wrapping_sub_u64-less in
    let result = c.wrapping_sub_u64 in
    let u-is = simp (to_z-of_z, c.ranges.a) at u.ensures in
    let v-is = simp (to_z-of_z, c.ranges.b) at v.ensures in
    let first-is = when_below a v.result c.ranges.a c.when.ensures in
    let second_is = when_below b u.result c.ranges.b c.when-2.ensures in
    let less-is = subst (λ (n : ℕ). (less.result + n) % 2 ^ 64 ≡ high.result) first-is less.ensures.value in
    let high_is = subst (λ (n : ℕ). (result.result + n) % 2 ^ 64 ≡ less.result) second_is result.ensures.value in
    let product_is =
    signed-product_mod u.result v.result (sign a) (sign b) high.result low.result less.result result.result
    high.ensures low.ensures less-is high_is in
    let a-is = by_bits a c.ranges.a ∙ ap (λ (n : ℕ). pos n -ℤ pos (sign a * 2 ^ 64)) (sym u-is) in
    let b-is = by_bits b c.ranges.b ∙ ap (λ (n : ℕ). pos n -ℤ pos (sign b * 2 ^ 64)) (sym v-is) in
    value-wrapped (search rules)
    (subst (λ (z : ℤ). Congruent z (pos (result.result * 2 ^ 64 + low.result))) (ap₂ ◌*ℤ◌ (sym a-is) (sym b-is)) product_is)
    ∙ wrapped-fits (fit tt (in_mul (in_fit w64 c.ranges.a) (in_fit w64 c.ranges.b)))
