-- `operand_word` meets its contract: the region is held before it is doubled, so that the product fits.
use native.Mathlib.Omega.{arith}
use mir.Syntax.{w32}
use mir.ValLaws.{to_z-of_z}
use Rattle.writer.specs.Inner.Words.{operand_number_word}
use Rattle.writer.proofs.WordLaws.{twice-held}
use Rattle.writer.proofs.operand_word.Goals as goal

pub returns-then-complement : goal.returns-then-complement
unfolding operand_number_word
returns-then-complement c =
    rw (to_z-of_z w32 _ (record { sfits = c.number_word.type_inv }), c.number_word.ensures, c.if-complement.true)
    (twice-held _ c.args.region 1 (omega (arith, c.min-twice.ensures)))

pub returns : goal.returns
unfolding operand_number_word
returns c =
    rw (to_z-of_z w32 _ (record { sfits = c.number_word-2.type_inv }), c.number_word-2.ensures, c.if-complement.false)
    (twice-held _ c.args.region 0 (omega (arith, c.min-twice.ensures)))
