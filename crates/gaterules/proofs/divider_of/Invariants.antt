-- `divider_of`: the last divider that begins at k or before, of those below t.
use Rattle.std.proofs.Common.{◌≡◌, ◌≤◌, leb}
use Rattle.text.specs.Lines.{fields}
use Rattle.text.specs.Bounded.{last}
use Rattle.gates.specs.Quads.{divider_at}
use Rattle.gaterules.proofs.divider_of.Given as goal

abbrev pub invariant-loop-t : goal.invariant-loop-t
invariant-loop-t l = (l.r ≡ last (λ i. leb (divider_at (fields l.line) i) l.k) 0 l.t) × (l.r ≤ 3)
