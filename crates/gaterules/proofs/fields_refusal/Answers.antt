-- `fields_refusal`: the least refusal of the fields below k.
use Rattle.std.proofs.Common.{◌≡◌, arith}
use Rattle.gates.specs.Rules.{fields_refusal}
use Rattle.gaterules.proofs.fields_refusal.Goals as goal

pub returns : goal.returns
unfolding fields_refusal
returns c =
    let e : c.loop-k.k ≡ c.field_count-k-end.result = omega arith in
    rw (c.loop-k.invariant, e, c.field_count-k-end.ensures)
