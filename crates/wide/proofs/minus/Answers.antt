-- `minus`: the difference of the low words, and its borrow from the difference of the high words.
use Rattle.std.proofs.Common.{rules}
use Rattle.wide.proofs.CongruenceLaws.{mod_sub, mod_trans}
use Rattle.wide.proofs.WordLaws.{borrowed, difference_mod}
use Rattle.wide.proofs.ValueLaws.{Sized, value_mod, value-wrapped}
use Rattle.wide.proofs.minus.Goals as goal
use Rattle.wide.proofs.minus.Goals.{Start}

sizes : (c : Start) → Sized c.args.a × Sized c.args.b
sizes c = search rules

pub returns : goal.returns
returns c =
    let a = c.args.a in
    let b = c.args.b in
    let low = c.wrapping_sub_u64-low in
    let high = c.wrapping_sub_u64-high in
    let borrow = c.when-borrow in
    let result = c.wrapping_sub_u64 in
    let s = sizes c.before.before.before.before.before.before in
    let low-is = borrowed a.low b.low low.result borrow.result low.type_inv s.1.low_fits low.ensures.value borrow.ensures in
    let difference-is =
    difference_mod a.high a.low b.high b.low high.result low.result result.result borrow.result low-is high.ensures.value
    result.ensures.value in
    value-wrapped (search rules) (mod_trans (mod_sub (value_mod s.0) (value_mod s.1)) difference-is)
