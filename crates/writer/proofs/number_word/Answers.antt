-- `number_word`: a number held at 65,535 fits a word.
use native.Mathlib.Omega.{arith}
use mir.Syntax.{w32}
use mir.ValLaws.{to_z_pos}
use Rattle.writer.specs.Inner.Words.{number_word}
use Rattle.writer.proofs.number_word.Goals as goal

pub returns : goal.returns
unfolding number_word
returns c = rw (to_z_pos w32 c.min.result (omega arith), c.min.ensures)
