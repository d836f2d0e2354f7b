-- `range_refusal`: what is read is held to the ends.
use Rattle.std.proofs.Common.{◌≡◌, Some, arith, rules}
use Rattle.integers.specs.Range.{in_range}
use Rattle.gaterules.proofs.range_refusal.Goals as goal

pub returns : goal.returns
unfolding in_range
returns c =
    let e : c.args.read ≡ Some c.in_ok-value.value = grind arith in
    rw (c.unless.ensures, e) (search rules)
