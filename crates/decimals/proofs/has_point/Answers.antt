-- `has_point`: what `contains` answers.
use Rattle.std.proofs.Common.{eqb, ◌∙◌}
use Rattle.decimals.specs.Decimals.{has_point}
use Rattle.text.proofs.LibraryLaws.{any_is}
use Rattle.decimals.proofs.has_point.Goals as goal

pub returns : goal.returns
unfolding has_point
returns c = c.contains.ensures.value ∙ any_is (λ c. eqb c 46) c.args.s.now
