-- `ellipsoid_run`: as `ellipsoid_run`, of an ellipsoid.
use mathlib.Core.Path.{◌≡◌}
use Prim.Native.Nat.{◌-◌}
use lib.ListN.{length}
use Rattle.plans.specs.Indices.{first_bad}
use Rattle.plans.specs.Form.{ellipsoid_word}
use Rattle.plans.specs.Inner.Reader.{ellipsoid_run}
use Rattle.plans.proofs.form.ellipsoid_run.Given as goal

abbrev pub invariant-loop-i : goal.invariant-loop-i
invariant-loop-i l = ellipsoid_run l.n l.body ≡ first_bad (ellipsoid_word l.n l.body) l.i (length l.body - l.i)
