-- Counting by a table: compiling it into a lent slice, then checking and counting by exactly the words reported. A list comes with a column line.
use Rattle.std.specs.Prelude.{cond, List, [], ◌∷◌, ℕ, ℤ, take, eqb}
use Rattle.plans.specs.Refusals.{Verdict}
use Rattle.counter.specs.declared.Tally.{Tally}
use Rattle.counter.specs.Counting.{no_tally, Counting, count_of}
use Rattle.tables.specs.Columns.{columns_verdict}
use Rattle.tables.specs.Compile.{Compiling, compile_of}

-- number and place, the words and regions of the plan written, the tally, and the slice afterwards
pub record TableCounting : Type 0 where
  pub verdict : Verdict
  pub words : ℕ
  pub regions : ℕ
  pub tally : Tally
  pub slice : List ℤ

-- the words of a slice that compiling reported; checking and counting are lent exactly these
abbrev pub lent : ℕ → List ℤ → List ℤ
lent words slice = take words slice

-- a refusal: 0 words, 0 regions, a tally of zeros, and the slice as it was
abbrev pub uncounted : List ℤ → Verdict → TableCounting
uncounted slice v = record { verdict = v; words = 0; regions = 0; tally = no_tally; slice = slice }

-- what compiling into a slice and counting by the words reported gave, unless counting is refused
abbrev pub counted_by : List ℤ → Compiling → Counting → TableCounting
counted_by slice c k =
    cond (eqb k.verdict.number 0)
    (record { verdict = k.verdict; words = c.words; regions = c.regions; tally = k.tally; slice = c.slice })
    (uncounted slice k.verdict)

-- the table's refusals come first, then that of the column line, then those of counting
unfoldable pub count_table_of : List ℕ → List ℕ → List ℤ → List ℤ → TableCounting
count_table_of text columns slice values =
    let c = compile_of text slice in
    let v = columns_verdict text (columns ∷ []) in
    cond (eqb c.verdict.number 0)
    (cond (eqb v.number 0) (counted_by slice c (count_of (lent c.words c.slice) values)) (uncounted slice v))
    (uncounted slice c.verdict)
