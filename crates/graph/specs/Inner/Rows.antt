-- Rows of bits: the bits of a row, a row put into others, rows that a set holds back, and the rows of a table's references.
use Rattle.std.specs.Prelude.{◌≡◌, Bool, not, cond, ◌&&◌, List, ℕ, ◌<◌, eqb, length, get_or, replicate}
use Rattle.std.specs.Int.Bits.{bit_or}
use Rattle.plans.specs.Bits.{has_bit}
use Rattle.gates.specs.Gate.{Name, Region}
use Rattle.tables.specs.Table.{some_of, nth_region, number_of, references}

-- row a has bit b
unfoldable pub bit_at : List ℕ → ℕ → ℕ → Bool
bit_at rows a b = has_bit (get_or rows a 0) b

-- 64 rows with no bit
unfoldable pub zero_rows : List ℕ
zero_rows = replicate 64 0

-- row i once row s is put into each row that has bit s
unfoldable pub joined : List ℕ → ℕ → ℕ → ℕ
joined rows s i = cond (has_bit (get_or rows i 0) s) (bit_or (get_or rows i 0) (get_or rows s 0)) (get_or rows i 0)

-- each bit of a is one of b
unfoldable pub is_subset : ℕ → ℕ → Bool
is_subset a b = eqb (bit_or a b) b

-- row r is in the set, or has a bit that is not
unfoldable pub held : List ℕ → ℕ → ℕ → Bool
held rows set r = not (not (has_bit set r) && is_subset (get_or rows r 0) set)

-- row r holds the numbers of the regions that region r refers to
abbrev pub Referring : List Region → List ℕ → Type 0
Referring rs rows = (r k : ℕ) → r < length rs → bit_at rows r k ≡ some_of (λ (n : Name). eqb (number_of rs n) k) (references (nth_region rs r))
