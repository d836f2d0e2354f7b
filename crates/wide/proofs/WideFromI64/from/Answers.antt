-- `Wide::from`: the sign in each bit of the high word.
use Rattle.std.proofs.Common.{ℕ, ◌+◌, ◌*◌, ◌^◌, ◌∙◌, ap₂, to_z-of_z, to_z}
use mir.Syntax.{w128}
use Rattle.wide.specs.Inner.Values.{value}
use Rattle.wide.proofs.SignLaws.{when_below, extended}
use Rattle.wide.proofs.WideFromI64.from.Goals as goal

pub returns : goal.returns
unfolding value
returns c =
    let x = c.args.x in
    let high_is = when_below x 18446744073709551615 c.ranges.x c.when-high.ensures in
    let low-is = simp (to_z-of_z, c.ranges.x) at c.bits_of-low.ensures in
    ap₂ (λ (high low : ℕ). to_z w128 (high * 2 ^ 64 + low)) high_is low-is
    ∙ extended x c.ranges.x
