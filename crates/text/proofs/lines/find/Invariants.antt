-- `find`: the place from a on is the place from i on.
use Rattle.std.proofs.Common.{◌≡◌, ◌≤◌, max, length}
use Rattle.text.specs.Inner.Places.{find_from}
use Rattle.text.proofs.lines.find.Given as goal

abbrev pub invariant-loop-i : goal.invariant-loop-i
invariant-loop-i l = (l.i ≤ max l.a (length l.s)) × (find_from l.s l.a l.c ≡ find_from l.s l.i l.c)
