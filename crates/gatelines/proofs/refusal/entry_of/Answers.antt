-- `entry_of`: in thousandths where the line becomes kind 7.
use mir.Syntax.{w32}
use mir.ValLaws.{to_z-of_z}
use Rattle.gatelines.proofs.refusal.entry_of.Goals as goal

pub returns-then-becomes : goal.returns-then-becomes
returns-then-becomes c =
    rw (← c.becomes.ensures, c.if-becomes.true, to_z-of_z w32 _ (record { sfits = c.thousandths_of.type_inv })) c.thousandths_of.ensures

pub returns : goal.returns
returns c =
    rw (← c.becomes.ensures, c.if-becomes.false, to_z-of_z w32 _ (record { sfits = c.value_of.type_inv })) c.value_of.ensures
