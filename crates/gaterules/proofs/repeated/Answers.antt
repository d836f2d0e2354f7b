-- `repeated`: whether a dimension before k is the same field.
use Rattle.std.proofs.Common.{◌&&◌, rules, tests}
use Rattle.text.specs.Lines.{fields}
use Rattle.text.specs.Bytes.{same}
use Rattle.plans.proofs.IteratorLaws.{any_in_range}
use Rattle.gates.specs.Kinds.{field_at}
use Rattle.gates.specs.Rules.{is_dimension, rule_of, repeated}
use Rattle.gaterules.proofs.repeated.Goals as goal

pub returns : goal.returns
unfolding repeated
returns c =
    let fs = fields c.args.line.now in
    any_in_range (λ j. is_dimension (rule_of c.args.kind fs j) && same (field_at fs j) (field_at fs c.args.k)) c.args.k _ _ _ (cc) c.any.ensures.ran
    (λ x b q k. search (rules, tests))
