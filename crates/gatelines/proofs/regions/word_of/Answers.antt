-- `word_of`: three tests for a word that is not there; then the word of a quadrant or of the line.
use mir.Syntax.{w32}
use mir.ValLaws.{to_z-of_z}
use native.Mathlib.Omega.{arith}
use mathlib.Core.Bool.{true, false}
use borrow.Author.Tests.{lt-ltb, le-ltb, lt-leb, le-leb}
use Rattle.text.specs.Lines.{fields}
use Rattle.gates.specs.Inner.Regions.{body_word_of}
use Rattle.gatelines.proofs.LineLaws.{quad-known, region-quad, length-quad, length-other}
use Rattle.gatelines.proofs.regions.word_of.Goals as goal

pub returns-then-name_count-gt8 : goal.returns-then-name_count-gt8
unfolding body_word_of
returns-then-name_count-gt8 c = rw (← c.name_count.ensures, lt-leb c.name_count.result 8 c.if-name_count-gt8.true)

pub returns-then-region_count-q : goal.returns-then-region_count-q
unfolding body_word_of
returns-then-region_count-q c =
    rw (
      ← c.name_count.ensures,
      le-leb c.name_count.result 8 c.if-name_count-gt8.false,
      ← c.region_count.ensures,
      le-ltb c.args.q c.region_count.result c.if-region_count-q.true,
    )

pub returns-then-body_length-i : goal.returns-then-body_length-i
unfolding body_word_of
returns-then-body_length-i c =
    let args = c.args in
    rw (
      ← c.name_count.ensures,
      le-leb c.name_count.result 8 c.if-name_count-gt8.false,
      ← c.region_count.ensures,
      lt-ltb args.q c.region_count.result c.if-region_count-q.false,
      ← c.body_length.ensures,
      le-ltb args.i c.body_length.result c.if-body_length-i.true,
    )

pub quadrant_word-requires : goal.quadrant_word-requires
quadrant_word-requires c =
    let f = fields c.args.line.now in
    let z =
    quad-known f c.kind_of-kind.result c.is_quad.result true c.kind_of-kind.ensures c.is_quad.ensures
    c.if-is_quad.true in (
      omega (arith, c.name_count.ensures, c.if-name_count-gt8.false),
      omega (arith, region-quad f z, c.region_count.ensures, c.if-region_count-q.false),
      omega (arith, length-quad f z, c.body_length.ensures, c.if-body_length-i.false),
    )

pub returns-then-is_quad : goal.returns-then-is_quad
unfolding body_word_of
returns-then-is_quad c =
    let args = c.args in
    let f = fields args.line.now in
    let z =
    quad-known f c.kind_of-kind.result c.is_quad.result true c.kind_of-kind.ensures c.is_quad.ensures
    c.if-is_quad.true in
    rw (
      ← c.name_count.ensures,
      le-leb c.name_count.result 8 c.if-name_count-gt8.false,
      ← c.region_count.ensures,
      lt-ltb args.q c.region_count.result c.if-region_count-q.false,
      ← c.body_length.ensures,
      lt-ltb args.i c.body_length.result c.if-body_length-i.false,
      z,
      to_z-of_z w32 _ (record { sfits = c.quadrant_word.type_inv }),
      c.quadrant_word.ensures,
    )

pub line_word-requires : goal.line_word-requires
line_word-requires c =
    let f = fields c.args.line.now in
    let z =
    quad-known f c.kind_of-kind.result c.is_quad.result false c.kind_of-kind.ensures c.is_quad.ensures
    c.if-is_quad.false in (
      omega (arith, c.name_count.ensures, c.if-name_count-gt8.false),
      omega (arith, length-other f z, c.body_length.ensures, c.if-body_length-i.false),
    )

pub returns : goal.returns
unfolding body_word_of
returns c =
    let kind-of = c.kind_of-kind in
    let args = c.args in
    let f = fields args.line.now in
    let z = quad-known f kind-of.result c.is_quad.result false kind-of.ensures c.is_quad.ensures c.if-is_quad.false in
    rw (
      ← c.name_count.ensures,
      le-leb c.name_count.result 8 c.if-name_count-gt8.false,
      ← c.region_count.ensures,
      lt-ltb args.q c.region_count.result c.if-region_count-q.false,
      ← c.body_length.ensures,
      lt-ltb args.i c.body_length.result c.if-body_length-i.false,
      z,
      to_z-of_z w32 _ (record { sfits = c.line_word.type_inv }),
      c.line_word.ensures,
      kind-of.ensures,
    )
