-- `product_low` is the lower word of the product: of the middle columns only the lower halves count.
use Rattle.std.proofs.Common.{arith}
use Rattle.wide.proofs.ColumnLaws.{Products, products, lower_word}
use Rattle.wide.proofs.words.product_low.Goals as goal
use Rattle.wide.proofs.words.product_low.Goals.{Start}

known : (c : Start) → Products c.args.u c.args.v
known c = products c.args.u c.args.v c.ranges.u.fits c.ranges.v.fits

pub overflow_mul-m : goal.overflow_mul-m
overflow_mul-m c = let p = known c in omega arith

pub overflow_mul-m-2 : goal.overflow_mul-m-2
overflow_mul-m-2 c = let p = known c in omega arith

pub overflow_mul-u0 : goal.overflow_mul-u0
overflow_mul-u0 c = let p = known c in omega arith

pub returns : goal.returns
returns c =
    lower_word c.args.u c.args.v c.wrapping_add_u64.result c.wrapping_add_u64.ensures.value
