-- `in_range_at` is `in_range` of the word.
use mir.Syntax.{w32}
use mir.ValLaws.{to_z-of_z}
use Rattle.plans.proofs.WordLaws.{back}
use Rattle.plans.proofs.words.in_range_at.Goals as goal

pub returns : goal.returns
returns c =
    let word_at = c.word_at in
    let args = c.args in
    rw (
      c.in_range.ensures,
      back word_at.result word_at.type_inv,
      word_at.ensures,
      to_z-of_z w32 args.lo c.ranges.lo,
      to_z-of_z w32 args.hi c.ranges.hi,
    )
