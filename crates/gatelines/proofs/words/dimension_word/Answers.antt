-- `dimension_word`: the number of a dimension is at most 8, so the cast keeps it.
use native.Mathlib.Omega.{arith}
use Prim.Native.Nat.{◌≤◌}
use lib.ListN.{drop}
use mir.Syntax.{w32}
use mir.ValLaws.{to_z_pos}
use Rattle.text.specs.Lines.{fields}
use Rattle.gatelines.proofs.LineLaws.{dimension_le}
use borrow.Author.Rules.{rules}
use Rattle.gatelines.proofs.words.dimension_word.Goals as goal

pub overflow_cast-result : goal.overflow_cast-result
overflow_cast-result c =
    let args = c.args in
    let h : c.dimension_of.result ≤ 8 =
    omega (arith, c.requires, c.dimension_of.ensures, dimension_le (drop 1 (fields args.head.now)) args.x.now) in
    search rules

pub returns : goal.returns
returns c =
    let dimension-of = c.dimension_of in
    let args = c.args in
    let h : dimension-of.result ≤ 8 = omega (arith, c.requires, dimension-of.ensures, dimension_le (drop 1 (fields args.head.now)) args.x.now) in
    rw (to_z_pos w32 dimension-of.result (omega arith), dimension-of.ensures)
