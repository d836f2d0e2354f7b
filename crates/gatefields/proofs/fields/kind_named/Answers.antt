-- `kind_named`: each kind where the field is its name, else those tried before.
use Rattle.gates.specs.Kinds.{kind_named}
use mathlib.Core.Path.{refl}
use Rattle.gatefields.proofs.fields.kind_named.Goals as goal

pub returns : goal.returns
unfolding kind_named
returns c =
    rw (
      c.kind_or.ensures,
      c.kind_or-kind-7.ensures,
      c.kind_or-kind-6.ensures,
      c.ellip_kind.ensures,
      c.kind_or-kind-5.ensures,
      c.kind_or-kind-4.ensures,
      c.kind_or-kind-3.ensures,
      c.kind_or-kind-2.ensures,
      c.kind_or-kind.ensures,
    ) refl
