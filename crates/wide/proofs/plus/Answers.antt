-- `plus`: the sum of the low words, and its carry into the sum of the high words.
use Rattle.std.proofs.Common.{rules}
use Rattle.wide.proofs.CongruenceLaws.{mod_add, mod_trans}
use Rattle.wide.proofs.WordLaws.{carried, sum_mod}
use Rattle.wide.proofs.ValueLaws.{Sized, value_mod, value-wrapped}
use Rattle.wide.proofs.plus.Goals as goal
use Rattle.wide.proofs.plus.Goals.{Start}

sizes : (c : Start) → Sized c.args.a × Sized c.args.b
sizes c = search rules

pub returns : goal.returns
returns c =
    let a = c.args.a in
    let b = c.args.b in
    let low = c.wrapping_add_u64-low in
    let high = c.wrapping_add_u64-high in
    let carry = c.when-carry in
    let result = c.wrapping_add_u64 in
    let s = sizes c.before.before.before.before.before in
    let low-is = carried a.low b.low low.result carry.result s.0.low_fits s.1.low_fits low.ensures.value carry.ensures in
    let sum_is_lem =
    sum_mod a.high a.low b.high b.low high.result low.result result.result carry.result low-is high.ensures.value result.ensures.value in
    value-wrapped (search rules) (mod_trans (mod_add (value_mod s.0) (value_mod s.1)) sum_is_lem)
