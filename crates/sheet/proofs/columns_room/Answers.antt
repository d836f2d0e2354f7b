-- `columns_room`: so many zeros.
use Prim.Native.Nat.{ℕ}
use lib.ListN.{length-replicate}
use Rattle.sheet.proofs.columns_room.Goals as goal

pub returns : goal.returns
returns c = length-replicate {A = ℕ} 627254 0
