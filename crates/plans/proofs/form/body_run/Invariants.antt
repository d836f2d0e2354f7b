-- `body_run`: the words from the i-th on begin with as many good ones.
use mathlib.Core.Path.{◌≡◌}
use Prim.Native.Nat.{◌-◌}
use lib.ListN.{length}
use Rattle.plans.specs.Indices.{first_bad}
use Rattle.plans.specs.Form.{body_word}
use Rattle.plans.specs.Inner.Reader.{body_run}
use Rattle.plans.proofs.form.body_run.Given as goal

abbrev pub invariant-loop-i : goal.invariant-loop-i
invariant-loop-i l =
    body_run l.kind l.n l.regions.count l.regions.set l.body
    ≡ first_bad (body_word l.kind l.n l.regions.count l.regions.set l.body) l.i (length l.body - l.i)
