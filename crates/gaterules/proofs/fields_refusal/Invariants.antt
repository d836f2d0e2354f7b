-- `fields_refusal`: the least refusal of the fields below k.
use Rattle.std.proofs.Common.{◌≡◌, drop}
use Rattle.text.specs.Lines.{fields}
use Rattle.text.specs.Bounded.{least}
use Rattle.gates.specs.Rules.{field_refusal, no_refusal}
use Rattle.gates.specs.LineRefusals.{earned_number}
use Rattle.gaterules.proofs.fields_refusal.Given as goal

abbrev pub invariant-loop-k : goal.invariant-loop-k
invariant-loop-k l = earned_number l.least ≡ least (field_refusal (drop 1 (fields l.head)) l.kind (fields l.line)) no_refusal l.k
