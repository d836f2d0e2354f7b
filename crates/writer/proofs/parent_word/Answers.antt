-- `parent_word`: a region, or none from 64 on.
use native.Mathlib.Omega.{arith}
use borrow.Author.Tests.{lt-ltb, le-ltb}
use mir.Syntax.{w32}
use mir.ValLaws.{to_z_pos}
use Rattle.writer.specs.Inner.Words.{parent_number_word}
use Rattle.writer.proofs.parent_word.Goals as goal

pub returns-then-parent-lt64 : goal.returns-then-parent-lt64
unfolding parent_number_word
returns-then-parent-lt64 c = let p = c.args.parent in rw (to_z_pos w32 p (omega arith), lt-ltb p 64 c.if-parent-lt64.true)

pub returns-else-parent-lt64 : goal.returns-else-parent-lt64
unfolding parent_number_word
returns-else-parent-lt64 c = rw (le-ltb c.args.parent 64 c.if-parent-lt64.false)
