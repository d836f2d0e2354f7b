-- Members on the outline of a region's own shape, from a table's own gates.
use Rattle.std.specs.Prelude.{Bool, false, ◌&&◌, List}
use Rattle.text.specs.Bytes.{same}
use Rattle.gates.specs.Gate.{Name, Event, Shape, leaf, and_of, or_of, not_of, Gate, Region, regions}
use Rattle.gates.specs.Outlines.{outline_holds}
use Rattle.tables.specs.Table.{some_of}
use Rattle.tables.specs.Members.{member}

-- combinations have no outline
abbrev pub on_shape : Event → Shape → Bool
on_shape e (leaf l) = outline_holds l e
on_shape e (and_of os) = false
on_shape e (or_of os) = false
on_shape e (not_of o) = false

-- 02: "members of the region that are on the outline of its own shape", for the region of that name
unfoldable pub outline_member : List Gate → Event → Name → Bool
outline_member t e n = member t e n && some_of (λ (r : Region). same n r.name && on_shape e r.shape) (regions t)
