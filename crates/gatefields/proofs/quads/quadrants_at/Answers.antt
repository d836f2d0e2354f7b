-- `quadrants_at`: the quadrants begin where one more divider would.
use native.Mathlib.Omega.{arith}
use mathlib.Core.Path.{◌≡◌}
use Prim.Native.Nat.{min}
use Rattle.gatefields.proofs.quads.quadrants_at.Goals as goal

pub returns : goal.returns
returns c =
    let divider-at = c.divider_at in
    let divider-count = c.divider_count in
    let e : min divider-count.result 3 ≡ divider-count.result = omega arith in
    (rw (divider-at.ensures.0, e, divider-count.ensures.0), divider-at.ensures.1, divider-at.ensures.2)
