-- Of a table that keeps the rules, `member` is what 01's equations say, and nothing else obeys them.
use mathlib.Core.Path.{◌≡◌, sym, ◌∙◌}
use mathlib.Core.Bool.{Bool, true, false}
use mathlib.Core.List.{List}
use lib.ListN.{length}
use Rattle.counter.specs.Judging.{taken}
use Rattle.gates.specs.Gate.{Name, Event, Gate, Region, regions}
use Rattle.tables.specs.Table.{◌∈◌}
use Rattle.tables.specs.Further.Rules.{Rules}
use Rattle.tables.specs.Members.{rounds, member}
use Rattle.tables.specs.Further.Obeying.{Obeys}
use Rattle.tables.proofs.MemberLaws.{same-value, rounds_obey, obey_agree}
use Rattle.tables.proofs.GateLaws.{orderly}

module _ (t : List Gate) (e : Event) where
  -- an event that is spoilt is a member of nothing
  pub member-spoilt : taken e ≡ false → (n : Name) → member t e n ≡ false
  unfolding member
  member-spoilt h n = rw h

  module _ (ok : Rules t) (h : taken e ≡ true) where
    member-taken : (n : Name) → member t e n ≡ rounds (length (regions t)) (regions t) e n
    unfolding member
    member-taken n = rw h

    -- an event that is taken is a member where it lies in the shape and in the parent
    pub member_obeys : Obeys (regions t) e (member t e)
    member_obeys r m =
        member-taken r.name ∙ rounds_obey (regions t) (orderly t ok) e r m
        ∙ sym (same-value e (member t e) (rounds (length (regions t)) (regions t) e) r (λ n _. member-taken n))

    -- nothing else obeys the equations
    pub member-only : (m : Name → Bool) → Obeys (regions t) e m → (r : Region) → r ∈ regions t → m r.name ≡ member t e r.name
    member-only m o r i = obey_agree (regions t) (orderly t ok) e m (member t e) o member_obeys r i
