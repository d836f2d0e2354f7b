-- `quad_rule`: by the part of the line: before the dividers, in a divider, in a quadrant.
use native.Mathlib.Omega.{arith}
use borrow.Author.Tests.{lt-ltb, le-ltb, lt-leb, eq-eqb, ne_eqb}
use mathlib.Core.Path.{◌≡◌}
use Prim.Native.Nat.{min}
use Rattle.gates.specs.Rules.{quad_rule}
use Rattle.integers.proofs.Rules.{tests}
use Rattle.gaterules.proofs.quad_rule.Goals as goal

pub returns-then-k-le3 : goal.returns-then-k-le3
unfolding quad_rule
returns-then-k-le3 c = search tests

pub returns-then-k-a : goal.returns-then-k-a
unfolding quad_rule
returns-then-k-a c =
    let divider-of = c.divider_of in
    let args = c.args in
    let e : min divider-of.result 3 ≡ divider-of.result = omega arith in
    rw (
      lt-leb args.k 3 c.if-k-le3.false,
      ← c.quadrants_at-a.ensures.0,
      lt-ltb args.k c.quadrants_at-a.result c.if-k-a.true,
      c.divider_rule.ensures,
      c.saturating_sub.ensures,
      c.divider_at.ensures.0,
      e,
      divider-of.ensures.0,
    )

pub returns-then-k-a-eq0 : goal.returns-then-k-a-eq0
unfolding quad_rule
returns-then-k-a-eq0 c =
    let args = c.args in
    rw (
      lt-leb args.k 3 c.if-k-le3.false,
      ← c.quadrants_at-a.ensures.0,
      ← c.divider_count-size.ensures.0,
      le-ltb args.k c.quadrants_at-a.result c.if-k-a.false,
      eq-eqb _ _ c.if-k-a-eq0.true,
    )

pub returns : goal.returns
unfolding quad_rule
returns c =
    let args = c.args in
    rw (
      lt-leb args.k 3 c.if-k-le3.false,
      ← c.quadrants_at-a.ensures.0,
      ← c.divider_count-size.ensures.0,
      le-ltb args.k c.quadrants_at-a.result c.if-k-a.false,
      ne_eqb _ _ c.if-k-a-eq0.false,
    )
