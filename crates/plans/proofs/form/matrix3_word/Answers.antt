-- `matrix3_word` is `matrix3_word`.
use mathlib.Core.Path.{refl}
use Rattle.plans.specs.Indices.{all}
use Rattle.plans.specs.Form.{matrix3_word}
use Rattle.plans.proofs.WordLaws.{back}
use Rattle.plans.proofs.form.matrix3_word.Goals as goal

pub returns : goal.returns
unfolding matrix3_word all
returns c =
    rw (
      c.matrix3_good.ensures,
      back _ c.word_at.type_inv,
      back _ c.word_at-2.type_inv,
      back _ c.word_at-3.type_inv,
      back _ c.word_at-4.type_inv,
      back _ c.word_at-5.type_inv,
      back _ c.word_at-6.type_inv,
      c.word_at.ensures,
      c.word_at-2.ensures,
      c.word_at-3.ensures,
      c.word_at-4.ensures,
      c.word_at-5.ensures,
      c.word_at-6.ensures,
      c.entry_at.ensures,
      c.entry_at-2.ensures,
      c.entry_at-3.ensures,
      c.entry_at-4.ensures,
      c.entry_at-5.ensures,
      c.entry_at-6.ensures,
    )
    refl
