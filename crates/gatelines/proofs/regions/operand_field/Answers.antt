-- `operand_field`: behind the end there is no field.
use native.Mathlib.Omega.{arith}
use mathlib.Core.Path.{sym}
use mathlib.Core.List.{[]}
use Prim.Native.Nat.{◌+◌}
use lib.ListN.{get_or-eq_default}
use Rattle.text.specs.Lines.{fields}
use Rattle.gatelines.proofs.regions.operand_field.Goals as goal

pub returns-then-saturating_sub-j : goal.returns-then-saturating_sub-j
returns-then-saturating_sub-j c =
    let args = c.args in
    sym (get_or-eq_default (fields args.line.now) [] {n = 3 + args.j}
    (omega (arith, c.saturating_sub.ensures, c.field_count.ensures)))

pub returns : goal.returns
returns c = c.field.ensures
