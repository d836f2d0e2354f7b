-- The numbers of a region's line, from the columns and the sum of the tallies.
use Rattle.std.specs.Prelude.{ℕ, ◌+◌, ◌<◌, ◌≤◌, cond, List, [], ◌∷◌, ◌++◌, ltb, length, get_or}
use Rattle.text.specs.Bytes.{bytes}
use Rattle.counter.specs.declared.Tally.{Tally}
use Rattle.gates.specs.Gate.{Region, regions}
use Rattle.tables.specs.Table.{nth_region}
use Rattle.tables.specs.Head.{gates}
use Rattle.events.specs.Printing.{numbers_line}
use Rattle.report.specs.Report.{region_lines}
use Rattle.stepwriter.specs.Inner.Parents.{number_of_parent}
use Rattle.sheet.specs.Inner.Columns.{column_of}
use Rattle.sheet.specs.declared.numbers.Columns.{Columns}

-- number r of each list
abbrev pub column : Columns → ℕ → List ℕ
column c r = column_of c.numbers.now c.lists r

-- the count of the region of that number; the number taken for 64, where there is none
unfoldable pub count_by : Tally → ℕ → ℕ
count_by t parent = cond (ltb parent 64) (get_or t.counts parent 0) t.taken

unfoldable pub numbers_by : List Region → List ℕ → ℕ → Tally → ℕ → List ℕ
numbers_by rs columns k t r =
    column_of columns k r ++ (get_or t.counts r 0 ∷ get_or t.counts r 0 ∷ count_by t (number_of_parent rs (nth_region rs r).parent) ∷ [])

-- the lines that follow the regions
unfoldable pub summaries_by : List ℕ → ℕ → Tally → List ℕ
summaries_by columns k t =
    numbers_line (bytes "taken") (column_of columns k 64 ++ (t.taken ∷ []))
    ++ (numbers_line (bytes "unclaimed") (column_of columns k 66 ++ (t.unclaimed ∷ []))
    ++ (numbers_line (bytes "spoilt") (column_of columns k 65 ++ (t.spoilt ∷ [])) ++ []))

-- a whole sheet
unfoldable pub lines_by : List ℕ → List ℕ → ℕ → Tally → List ℕ
lines_by text columns k t =
    let rs = regions (gates text) in
    (region_lines rs (numbers_by rs columns k t) (length rs) ++ summaries_by columns k t) ++ numbers_line (bytes "events") ((t.taken + t.spoilt) ∷ [])

-- a place at which a line begins, and one of the 67 numbers of each list
pub record Placed (at r : ℕ) : Type 0 where
  pub near : at ≤ 1000000000
  pub within : r < 67
