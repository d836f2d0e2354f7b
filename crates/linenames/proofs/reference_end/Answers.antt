-- `reference_end` meets its contract.
use Rattle.linenames.specs.Inner.LineNames.{reference_end}
use Rattle.linenames.proofs.reference_end.Goals as goal

pub returns : goal.returns
unfolding reference_end
returns c =
    let kind-of = c.kind_of in
    (rw (c.end_in.ensures.0, kind-of.ensures, c.field_count.ensures), c.end_in.ensures.1)
