-- `upper_end`: the last interval ends where the scale does, each other at a value.
use mir.Syntax.{w32}
use mir.ValLaws.{to_z-of_z}
use native.Mathlib.Omega.{arith}
use mathlib.Core.Path.{◌≡◌, ap, ◌∙◌}
use Prim.Native.Nat.{min}
use borrow.Author.Tests.{eq-eqb, ne_eqb}
use Rattle.text.specs.Lines.{fields}
use Rattle.gates.specs.Quads.{value_count}
use Rattle.gates.specs.Encoding.{upper_end}
use Rattle.gatelines.proofs.words.upper_end.Goals as goal

pub returns-then-k-value_count : goal.returns-then-k-value_count
unfolding upper_end
returns-then-k-value_count c =
    let value-count = c.value_count in
    let args = c.args in
    let t = args.t in
    let f = fields args.line.now in
    let e : min t 3 ≡ t = omega arith in
    let v : value-count.result ≡ value_count f t = value-count.ensures.0 ∙ ap (value_count f) e in
    rw (← v, eq-eqb args.k value-count.result c.if-k-value_count.true)

pub returns : goal.returns
unfolding upper_end
returns c =
    let value-count = c.value_count in
    let args = c.args in
    let t = args.t in
    let f = fields args.line.now in
    let e : min t 3 ≡ t = omega arith in
    let v : value-count.result ≡ value_count f t = value-count.ensures.0 ∙ ap (value_count f) e in
    rw (← v, ne_eqb args.k value-count.result c.if-k-value_count.false, to_z-of_z w32 _ (record { sfits = c.divider_value.type_inv }), c.divider_value.ensures)
