-- `sheet_room`: so many zeros.
use mathlib.Core.Path.{sym}
use Prim.Native.Nat.{ℕ}
use lib.ListN.{length-replicate}
use Rattle.gatesheet.proofs.sheet_room.Goals as goal

pub returns : goal.returns
returns c = sym (length-replicate {A = ℕ} 1300000 0)
