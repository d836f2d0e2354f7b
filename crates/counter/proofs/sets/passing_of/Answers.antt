-- `passing_of`: rest has the events that are left to ask, found those asked that pass the test.
use mathlib.Core.Path.{sym, ◌∙◌}
use Prim.Native.Nat.{◌-◌}
use Rattle.plans.specs.Bits.{has_bit}
use Rattle.plans.proofs.IndexLaws.{and_both}
use Rattle.counter.proofs.SetLaws.{has_and}
use Rattle.counter.proofs.GroupLaws.{asking_all, asking_done, asking_next}
use Rattle.counter.proofs.sets.passing_of.Goals as goal

pub loop-rest-init : goal.loop-rest-init
loop-rest-init g c = ((λ e h t. t), (λ holds tells. asking_all c.args.among holds))

pub loop-rest-preserved : goal.loop-rest-preserved
loop-rest-preserved g c =
    let rest = c.loop-rest.rest in
    let inv = c.loop-rest.invariant in (
      (λ e h t. inv.0 e h (and_both (has_bit rest e) (has_bit (rest - 1) e) (sym (has_and rest (rest - 1) e) ∙ t)).0),
      (λ holds tells.
          asking_next c.args.among holds (inv.1 holds tells) c.first_of-e.ensures
          (tells c.first_of-e.result c.test-member.result
          (record { shown = c.event_of.result; shows = c.event_of.ensures.0; says = record { met = c.test-member.ensures } }))
          c.settle-found.ensures),
    )

pub returns : goal.returns
returns g c holds tells = asking_done c.args.among holds (c.loop-rest.invariant.1 holds tells) c.loop-rest-test.false
