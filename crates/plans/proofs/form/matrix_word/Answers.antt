-- `matrix_word` is `matrix_word`.
use Rattle.plans.specs.Form.{matrix_word}
use mir.Syntax.{w32}
use mir.ValLaws.{to_z-of_z}
use Rattle.plans.proofs.WordLaws.{back}
use Rattle.plans.proofs.FormLaws.{kept_from_lem}
use Rattle.plans.proofs.form.matrix_word.Goals as goal

pub entry_at-requires : goal.entry_at-requires
entry_at-requires c = kept_from_lem c.args.most c.ranges.most c.requires

pub entry_at-requires-2 : goal.entry_at-requires-2
entry_at-requires-2 c = kept_from_lem c.args.most c.ranges.most c.requires

pub entry_at-requires-3 : goal.entry_at-requires-3
entry_at-requires-3 c = kept_from_lem c.args.most c.ranges.most c.requires

pub returns : goal.returns
unfolding matrix_word
returns c =
    rw (
      c.matrix_good.ensures,
      back _ c.word_at.type_inv,
      back _ c.word_at-2.type_inv,
      back _ c.word_at-3.type_inv,
      c.word_at.ensures,
      c.word_at-2.ensures,
      c.word_at-3.ensures,
      c.entry_at.ensures,
      c.entry_at-2.ensures,
      c.entry_at-3.ensures,
      to_z-of_z w32 c.args.most c.ranges.most,
    )
