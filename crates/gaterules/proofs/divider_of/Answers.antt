-- `divider_of`: the last divider that begins at k or before, of those below t.
use Rattle.std.proofs.Common.{◌≡◌, arith, rules}
use Rattle.gates.specs.Rules.{divider_of}
use Rattle.gaterules.proofs.divider_of.Goals as goal

pub returns : goal.returns
unfolding divider_of
returns c =
    let e : c.loop-t.t ≡ c.divider_count-d.result = omega arith in
    (rw (c.loop-t.invariant.0, e, c.divider_count-d.ensures.0), search rules)
