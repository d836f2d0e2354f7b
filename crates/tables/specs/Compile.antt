-- Compiling a table into a lent slice.
use Rattle.std.specs.Prelude.{cond, List, ℕ, ℤ, length, eqb}
use Rattle.plans.specs.Refusals.{Verdict}
use Rattle.text.specs.Output.{over}
use Rattle.gates.specs.Gate.{regions}
use Rattle.tables.specs.Head.{dimensions, gates}
use Rattle.tables.specs.Steps.{plan_words}
use Rattle.tables.specs.Refusals.{table_verdict}

-- number and place, the words and regions written, and the slice afterwards
pub record Compiling : Type 0 where
  pub verdict : Verdict
  pub words : ℕ
  pub regions : ℕ
  pub slice : List ℤ

-- the plan of a table
unfoldable pub plan_of : List ℕ → List ℤ
plan_of text = plan_words (length (dimensions text)) (regions (gates text))

-- the plan is written over the slice's beginning
abbrev pub compiled : List ℕ → List ℤ → Verdict → Compiling
compiled text slice v = record { verdict = v; words = length (plan_of text); regions = length (regions (gates text)); slice = over (plan_of text) slice }

-- a refused compile reports 0 words and 0 regions and writes nothing
abbrev pub uncompiled : List ℤ → Verdict → Compiling
uncompiled slice v = record { verdict = v; words = 0; regions = 0; slice = slice }

unfoldable pub compile_of : List ℕ → List ℤ → Compiling
compile_of text slice =
    cond (eqb (table_verdict (length slice) text).number 0) (compiled text slice (table_verdict (length slice) text))
    (uncompiled slice (table_verdict (length slice) text))
