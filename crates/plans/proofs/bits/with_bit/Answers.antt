-- `with_bit`: 1 shifted by r is 2^r.
use lib.Pow.{shl_exact}
use native.Mathlib.Nat.{one-mul}
use native.Mathlib.Omega.{arith}
use borrow.Author.Tests.{lt-ltb, le-ltb}
use Rattle.plans.specs.Bits.{with_bit}
use Rattle.plans.proofs.bits.with_bit.Goals as goal

pub returns-then-r-lt64 : goal.returns-then-r-lt64
unfolding with_bit
returns-then-r-lt64 c = rw (shl_exact {a = 1} 1 c.args.r 64 (omega arith) (let h = c.if-r-lt64.true in omega arith), one-mul, lt-ltb _ _ c.if-r-lt64.true)

pub returns-else-r-lt64 : goal.returns-else-r-lt64
unfolding with_bit
returns-else-r-lt64 c = rw (le-ltb _ _ c.if-r-lt64.false)
