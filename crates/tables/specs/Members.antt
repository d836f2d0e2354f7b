-- Members of a region, from a table's own gates (01: "Members of a region are the events taken that lie in its shape and, where it has a parent, are members
-- of the parent").
use Rattle.std.specs.Prelude.{Bool, true, false, not, ◌&&◌, cond, List, ℕ, zero, suc, length}
use Rattle.std.proofs.Math.Option.{Option, none, some}
use Rattle.counter.specs.Judging.{taken}
use Rattle.text.specs.Bytes.{same, every}
use Rattle.gates.specs.Gate.{Name, Event, Operand, Shape, leaf, and_of, or_of, not_of, Gate, Region, regions}
use Rattle.gates.specs.Meaning.{holds}
use Rattle.tables.specs.Table.{some_of, names}

-- ---- an event that is taken, given of which names it is a member

module _ (m : Name → Bool) where
  -- `!` takes the events taken that are not members
  abbrev pub in_operand : Operand → Bool
  in_operand o = cond o.complement (not (m o.name)) (m o.name)

  abbrev pub in_shape : Event → Shape → Bool
  in_shape e (leaf l) = holds l e
  in_shape e (and_of os) = every in_operand os
  in_shape e (or_of os) = some_of in_operand os
  in_shape e (not_of o) = not (in_operand o)

  abbrev pub in_parent : Option Name → Bool
  in_parent none = true
  in_parent (some n) = m n

  -- in the shape and, where there is a parent, in the parent
  abbrev pub belongs : Event → Region → Bool
  belongs e r = in_shape e r.shape && in_parent r.parent

-- ---- the members: as many rounds of these equations as there are regions, which is enough: `member_obeys` and `member-only` in proofs/ say that the
-- members obey the equations, and nothing else does

abbrev pub round : List Region → Event → (Name → Bool) → Name → Bool
round rs e m n = some_of (λ (r : Region). same n r.name && belongs m e r) rs

abbrev pub rounds : ℕ → List Region → Event → Name → Bool
rounds zero rs e n = false
rounds (suc k) rs e n = round rs e (rounds k rs e) n

-- the event is a member of the region of that name; an event that is spoilt is a member of nothing
unfoldable pub member : List Gate → Event → Name → Bool
member t e n = taken e && rounds (length (regions t)) (regions t) e n

-- ---- events in some region, and in none (02: "events taken that are members of no region")

-- the event is a member of some region's name
unfoldable pub claimed : List Gate → Event → Bool
claimed t e = some_of (member t e) (names (regions t))

unfoldable pub unclaimed : List Gate → Event → Bool
unclaimed t e = taken e && not (claimed t e)
