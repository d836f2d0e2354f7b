-- Where a region of the gates that are read stands, and the rows of what regions refer to.
use Rattle.std.specs.Prelude.{Bool, cond, List, [], ◌∷◌, ℕ, ◌+◌, ◌-◌, leb, ltb, length, Option, Some, None}
use Rattle.plans.specs.Bits.{with_bit}
use Rattle.plans.specs.Indices.{first_bad}
use Rattle.gates.specs.Gate.{Name, Region}
use Rattle.tables.specs.Table.{nth_region, number_of, references}
use Rattle.resolve.specs.Inner.Reading.{regions_at}
use Rattle.tableregions.specs.declared.Located.{Located}

-- the gates up to number i have at most r regions
unfoldable pub ends_before : List ℕ → List ℕ → ℕ → ℕ → Bool
ends_before text starts r i = leb (length (regions_at text starts (i + 1))) r

-- the first of n gates up to which there are more than r regions, or n
unfoldable pub gate_of_region : List ℕ → List ℕ → ℕ → ℕ → ℕ
gate_of_region text starts n r = first_bad (ends_before text starts r) 0 n

-- that gate, and r less the regions of the gates before it
unfoldable pub located_at : List ℕ → List ℕ → ℕ → ℕ → Located
located_at text starts n r =
    record { gate = gate_of_region text starts n r; quadrant = r - length (regions_at text starts (gate_of_region text starts n r)) }

-- that place, if the gate is one of n
abbrev pub in_table : ℕ → Located → Option Located
in_table n place = cond (ltb place.gate n) (Some place) None

-- a set with the numbers put into it of the regions with these names
abbrev pub with_numbers : List Region → ℕ → List Name → ℕ
with_numbers rs set [] = set
with_numbers rs set (x ∷ xs) = with_numbers rs (with_bit set (number_of rs x)) xs

-- the numbers of the regions that region r refers to, as bits
unfoldable pub row_of : List Region → ℕ → ℕ
row_of rs r = with_numbers rs 0 (references (nth_region rs r))
