-- `refers_to` meets its contract: no field before this one names a region of the other line.
use Rattle.linenames.specs.Inner.LineNames.{passes_by}
use Rattle.text.specs.Lines.{fields}
use Rattle.plans.specs.Indices.{first_bad}
use Rattle.std.proofs.Common.{◌≡◌, ◌-◌, ◌≤◌}
use Rattle.linenames.proofs.refers_to.Given as goal

abbrev pub invariant-loop-k : goal.invariant-loop-k
invariant-loop-k l =
    (2 ≤ l.k) × (l.k ≤ l.k-end)
    × (first_bad (passes_by (fields l.line) (fields l.other)) 2 (l.k-end - 2) ≡ first_bad (passes_by (fields l.line) (fields l.other)) l.k (l.k-end - l.k))
