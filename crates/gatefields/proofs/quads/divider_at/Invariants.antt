-- `divider_at`: the field at which divider j begins, j by j; each divider takes at most five fields.
use Rattle.std.proofs.Common.{◌≡◌, ◌+◌, ◌*◌, ◌≤◌}
use Rattle.text.specs.Lines.{fields}
use Rattle.gates.specs.Quads.{divider_at}
use Rattle.gatefields.proofs.quads.divider_at.Given as goal

abbrev pub invariant-loop : goal.invariant-loop
invariant-loop l = (l.a ≡ divider_at (fields l.line) l.counter) × (4 ≤ l.a) × (l.a ≤ 4 + 5 * l.counter)
