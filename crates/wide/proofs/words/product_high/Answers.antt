-- `product_high` is the upper word of the product, column by column; no column passes 64 bits.
use Rattle.std.proofs.Common.{arith}
use Rattle.wide.proofs.ColumnLaws.{Products, products, upper-word}
use Rattle.wide.proofs.words.product_high.Goals as goal
use Rattle.wide.proofs.words.product_high.Goals.{Start}

known : (c : Start) → Products c.args.u c.args.v
known c = products c.args.u c.args.v c.ranges.u.fits c.ranges.v.fits

pub overflow_mul-t : goal.overflow_mul-t
overflow_mul-t c = let p = known c in omega arith

pub overflow_mul-t-2 : goal.overflow_mul-t-2
overflow_mul-t-2 c = let p = known c in omega arith

pub overflow_add-t : goal.overflow_add-t
overflow_add-t c = let p = known c in omega arith

pub overflow_mul-s : goal.overflow_mul-s
overflow_mul-s c = let p = known c in omega arith

pub overflow_add-s : goal.overflow_add-s
overflow_add-s c = let p = known c in omega arith

pub overflow_mul-result : goal.overflow_mul-result
overflow_mul-result c = let p = known c in omega arith

pub overflow_add-result : goal.overflow_add-result
overflow_add-result c = let p = known c in omega arith

pub overflow_add-result-2 : goal.overflow_add-result-2
overflow_add-result-2 c = let p = known c in omega arith

pub returns : goal.returns
returns c = upper-word c.args.u c.args.v
