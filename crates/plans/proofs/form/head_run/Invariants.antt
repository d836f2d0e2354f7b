-- `head_run`: the words from the j-th on begin with as many good ones.
use mathlib.Core.Path.{◌≡◌}
use Prim.Native.Nat.{◌-◌}
use Rattle.plans.specs.Indices.{first_bad}
use Rattle.plans.specs.Form.{head_word}
use Rattle.plans.specs.Inner.Reader.{head_run}
use Rattle.plans.proofs.form.head_run.Given as goal

abbrev pub invariant-loop-j : goal.invariant-loop-j
invariant-loop-j l =
    head_run l.plan l.regions.count l.regions.set l.at ≡ first_bad (head_word l.plan l.regions.count l.regions.set l.at) l.j (4 - l.j)
