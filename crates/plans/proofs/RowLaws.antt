-- A row of numbers that is stored over a slice of its length, as the C interface does.
use mathlib.Core.Path.{◌≡◌, ◌∙◌}
use mathlib.Core.List.{List, append-nil}
use Prim.Native.Nat.{ℕ, ◌+◌}
use native.Mathlib.Omega.{arith}
use lib.ListN.{length, drop_of_length-le}
use lib.Seq.{sets, sets-eq}

-- the slice is the row afterwards, whatever it held before
pub row-whole : (row o : List ℕ) → length o ≡ length row → sets o 0 row ≡ row
row-whole row o h =
    let none = drop_of_length-le o {i = 0 + length row} (omega arith) in
    sets-eq row o 0 (omega arith) ∙ rw none (append-nil row)
