-- `number_refusal`: what is read of a number earns what its value earns.
use mir.Syntax.{w32}
use mir.ValLaws.{to_z-of_z}
use Rattle.gaterules.proofs.RuleLaws.{number-earns}
use Rattle.gaterules.proofs.number_refusal.Goals as goal

pub returns : goal.returns
returns c =
    rw (c.range_refusal.ensures, c.read_number.ensures)
    (number-earns _ _ _ _ _ (to_z-of_z w32 _ c.ranges.lo) (to_z-of_z w32 _ c.ranges.hi) c.requires.0 c.requires.1)
