-- `held_once`: a number that is no combination passes; a combination has one holder.
use Rattle.gates.specs.Tiling.{held_once}
use Rattle.gatelines.proofs.tiling.held_once.Goals as goal

pub returns-then-is_combination : goal.returns-then-is_combination
unfolding held_once
returns-then-is_combination c = rw (← c.is_combination.ensures, c.if-is_combination.true, c.holders.ensures)

pub returns : goal.returns
unfolding held_once
returns c = rw (← c.is_combination.ensures, c.if-is_combination.false)
