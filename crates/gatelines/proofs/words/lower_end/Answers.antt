-- `lower_end`: the first interval begins where the scale does, each other at a value.
use mir.Syntax.{w32}
use mir.ValLaws.{to_z-of_z}
use borrow.Author.Tests.{eq-eqb, ne_eqb}
use Rattle.gates.specs.Encoding.{lower_end}
use Rattle.gatelines.proofs.words.lower_end.Goals as goal

pub returns-then-k-eq0 : goal.returns-then-k-eq0
unfolding lower_end
returns-then-k-eq0 c = rw (eq-eqb c.args.k 0 c.if-k-eq0.true)

pub returns : goal.returns
unfolding lower_end
returns c =
    rw (ne_eqb c.args.k 0 c.if-k-eq0.false, to_z-of_z w32 _ (record { sfits = c.divider_value.type_inv }), c.divider_value.ensures)
