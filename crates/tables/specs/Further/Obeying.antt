-- 01's equations of membership, one for each region: `member_obeys` and `member-only` in proofs/ say that the members obey them, and nothing else does.
use Rattle.std.specs.Prelude.{◌≡◌, Bool, List}
use Rattle.gates.specs.Gate.{Name, Event, Region}
use Rattle.tables.specs.Table.{◌∈◌}
use Rattle.tables.specs.Members.{belongs}

abbrev pub Obeys : List Region → Event → (Name → Bool) → Type 0
Obeys rs e m = (r : Region) → r ∈ rs → m r.name ≡ belongs m e r
