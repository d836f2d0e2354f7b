-- `read_word`: the digits may be cut where the number does not fit.
use mathlib.Core.Path.{sym, ◌∙◌}
use borrow.Author.Tests.{not-true, not-false}
use mir.Syntax.{w32}
use mir.ValLaws.{to_z-of_z}
use Rattle.runreport.proofs.WordLaws.{no_word, word_read}
use Rattle.runreport.proofs.reading.read_word.Goals as goal

pub returns-then-not-is_number : goal.returns-then-not-is_number
returns-then-not-is_number c = no_word _ (sym c.is_number.ensures ∙ not-true _ c.if-not-is_number.true-raw)

pub returns : goal.returns
returns c =
    to_z-of_z w32 _ (record { sfits = c.word.type_inv })
    ∙ word_read c.args.s.now c.is_number.ensures c.negative.ensures c.unsigned.ensures
    c.magnitude.ensures
    (not-false _ c.if-not-is_number.false-raw) c.word.ensures
