-- `part`: a digit of c to base 4, for each of the three dividers.
use native.Mathlib.Omega.{arith}
use mathlib.Core.Path.{◌≡◌}
use Rattle.gatelines.proofs.tiling.part.Goals as goal

pub returns-then-t-eq0 : goal.returns-then-t-eq0
returns-then-t-eq0 c = rw c.if-t-eq0.true (omega arith)

pub returns-then-t-eq1 : goal.returns-then-t-eq1
returns-then-t-eq1 c = rw c.if-t-eq1.true

pub returns : goal.returns
returns c = let e : c.args.t ≡ 2 = omega arith in rw e
