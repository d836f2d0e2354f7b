-- `minus_zero`: what is kept is zero where the value is.
use Rattle.std.proofs.Common.{rules, tests}
use Rattle.decimals.specs.Decimals.{is_minus_zero}
use Rattle.decimals.proofs.DecimalLaws.{zero-kept}
use Rattle.decimals.proofs.minus_zero.Goals as goal

pub returns-then-negative : goal.returns-then-negative
unfolding is_minus_zero
returns-then-negative c = rw (c.unsigned_thousandths.ensures, c.unsigned.ensures, zero-kept) (search (rules, tests))

pub returns-else-negative : goal.returns-else-negative
unfolding is_minus_zero
returns-else-negative c = search rules
