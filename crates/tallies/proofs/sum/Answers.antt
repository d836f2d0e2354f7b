-- `sum`: the counts below r are sums, those from r on the first tally's.
use Rattle.std.proofs.Common.{◌≡◌, ◌<◌, length, arith, rules}
use Rattle.tallies.proofs.AddingLaws.{added_none, added_next, added_all}
use Rattle.tallies.proofs.sum.Goals as goal

pub loop-r-init : goal.loop-r-init
loop-r-init c =
    let args = c.args in
    let long : length args.a.counts ≡ 64 = search rules in
    (omega arith, added_none args.a.counts args.b.counts long)

pub loop-r-preserved : goal.loop-r-preserved
loop-r-preserved c =
    let loop = c.loop-r in
    let args = c.args in
    let low : loop.r < 64 = omega arith in
    (search rules, added_next args.a.counts args.b.counts loop.r low loop.invariant.1 c.wrapping_add_u64.ensures.value)

pub returns : goal.returns
returns c =
    let loop = c.loop-r in
    let args = c.args in
    added_all args.a args.b c.wrapping_add_u64-taken.ensures.value c.wrapping_add_u64-spoilt.ensures.value
    c.wrapping_add_u64-unclaimed.ensures.value loop.r c.loop-r-test.false loop.invariant.1
