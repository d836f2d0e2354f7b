-- `min_word`: `*` stands for the beginning of the scale.
use mir.Syntax.{w32}
use mir.ValLaws.{to_z-of_z}
use Rattle.gates.specs.Encoding.{min_word}
use Rattle.gatelines.proofs.words.min_word.Goals as goal

pub returns-then-is_star : goal.returns-then-is_star
unfolding min_word
returns-then-is_star c = rw (← c.is_star.ensures, c.if-is_star.true)

pub returns : goal.returns
unfolding min_word
returns c = rw (to_z-of_z w32 _ (record { sfits = c.value_of.type_inv }), c.value_of.ensures, ← c.is_star.ensures, c.if-is_star.false)
