-- The marked cases of 01, as one theorem over a list of them about the definitions: those of the worked example from its bytes, then those of shapes,
-- matrices and the plan by itself (counter, proofs/MarkedCases). Outlines, ellipses with decimals, ellipsoids, events that nobody gated and column heads,
-- of 02's requests, are further lists.
use mathlib.Core.Path.{◌≡◌, refl}
use mathlib.Core.Bool.{Bool, true, false, ◌&&◌, cond}
use mathlib.Core.List.{List, [], ◌∷◌, ◌++◌, map}
use Prim.Native.Nat.{ℕ}
use lib.Dec.{eqb}
use lib.IntN.{ℤ, pos}
use lib.ListN.{replicate, take}
use Rattle.integers.specs.Equality.{eq_z}
use Rattle.plans.specs.Refusals.{passed, refused}
use Rattle.counter.proofs.MarkedCases.{Case, is, Hold, hold_both, example_plan, marked_cases, marked_cases_lem as shape-cases, outline_cases, outline_cases_lem as position-cases, turned_plan, decimal_cases, decimal_cases_lem as turned-cases}
use Rattle.text.specs.Bytes.{bytes, same}
use Rattle.text.specs.Lines.{unlines}
use Rattle.tables.specs.Head.{gates}
use Rattle.tables.specs.Members.{member, unclaimed}
use Rattle.tables.specs.Outlines.{outline_member}
use Rattle.tables.specs.Refusals.{table_verdict}
use Rattle.tables.specs.Columns.{columns_verdict}
use Rattle.tables.specs.TableCount.{TableCounting, lent, uncounted, count_table_of}
use Rattle.tables.proofs.TableCountLaws.{columns-refused}
use Rattle.plans.specs.Bits as Bits
use Rattle.plans.specs.Form as Form
use Rattle.plans.specs.Indices as Indices
use Rattle.integers.specs.Range as Range
use Rattle.plans.specs.Words as Words
use Rattle.counter.specs.Ellipse as Ellipse
use Rattle.counter.specs.DecimalEllipse as DecimalEllipse
use Rattle.counter.specs.Ellipsoid as Ellipsoid
use Rattle.counter.proofs.EllipsoidCases.{tilted_plan}
use Rattle.counter.specs.Judging as Judging
use Rattle.counter.specs.Members as Placing
use Rattle.counter.specs.Counting as Counting
use Rattle.counter.specs.Positions as Positions
use Rattle.counter.specs.Polygon as Polygon
use Rattle.text.specs.Bytes as Bytes
use Rattle.text.specs.Lines as Lines
use Rattle.text.specs.Names as Names
use Rattle.text.specs.Numbers as Numbers
use Rattle.text.specs.Output as Output
use Rattle.decimals.specs.Decimals as Decimals
use Rattle.gates.specs.Kinds as Kinds
use Rattle.gates.specs.Meaning as Meaning
use Rattle.gates.specs.Outlines as LineOutlines
use Rattle.gates.specs.Encoding as Encoding
use Rattle.gates.specs.Quads as Quads
use Rattle.gates.specs.Refusal as Refusal
use Rattle.gates.specs.Rules as Rules
use Rattle.gates.specs.Tiling as Tiling
use Rattle.tables.specs.Columns as Columns
use Rattle.tables.specs.Compile as Compile
use Rattle.tables.specs.Head as Head
use Rattle.tables.specs.Members as Members
use Rattle.tables.specs.Outlines as TableOutlines
use Rattle.tables.specs.Reaching as Reaching
use Rattle.tables.specs.Refusals as Refusals
use Rattle.tables.specs.Steps as Steps
use Rattle.tables.specs.Table as Table
use Rattle.tables.specs.TableCount as TableCount

-- ---- tables, with spaces for tabs

abbrev tabbed : List ℕ → List ℕ
tabbed s = map (λ c. cond (eqb c 32) 9 c) s

pub example : List ℕ
example = unlines (
    tabbed (bytes "dims FSC SSC")
    ∷ tabbed (bytes "rect Live Ring FSC 300 600")
    ∷ tabbed (bytes "ellip Ring - FSC SSC 400 200 40000 0 30625 1")
    ∷ tabbed (bytes "quad Q Ring 1 FSC 1 400 Lo 0 Hi 500")
    ∷ tabbed (bytes "and Both - Live !Hi")
    ∷ [])

example_events : List ℤ
example_events = pos 600 ∷ pos 200 ∷ pos 400 ∷ pos 375 ∷ pos 599 ∷ pos 200 ∷ pos 400 ∷ pos 376 ∷ pos 350 ∷ pos 200 ∷ pos 70000 ∷ pos 0 ∷ []

-- the column line of its lists
example_columns : List ℕ
example_columns = tabbed (bytes "FSC SSC")

-- ---- what the definitions say of it

same_words : List ℤ → List ℤ → Bool
same_words [] [] = true
same_words [] (y ∷ b) = false
same_words (x ∷ a) [] = false
same_words (x ∷ a) (y ∷ b) = eq_z x y && same_words a b

-- by compiling it into a slice, and counting its events
answer : TableCounting
answer = count_table_of example example_columns (replicate 64 (pos 0)) example_events

-- its members, by its own lines
in_gate : List ℕ → ℤ → ℤ → Bool
in_gate name x y = member (gates example) (x ∷ y ∷ []) name

pub table_cases : List Case
table_cases =
    is (same_words (lent answer.words answer.slice) example_plan) true
    ∷ is (same (take 5 answer.tally.counts) (3 ∷ 4 ∷ 1 ∷ 3 ∷ 1 ∷ [])) true
    ∷ is (eqb answer.tally.taken 5) true
    ∷ is (eqb answer.tally.spoilt 1) true
    ∷ is (in_gate (bytes "Ring") (pos 600) (pos 200)) true
    ∷ is (in_gate (bytes "Ring") (pos 400) (pos 375)) true
    ∷ is (in_gate (bytes "Ring") (pos 400) (pos 376)) false
    ∷ []

-- unclaimed by its own lines: what is just outside Ring; not what is on its rim, and not what is spoilt
in_no_gate : ℤ → ℤ → Bool
in_no_gate x y = unclaimed (gates example) (x ∷ y ∷ [])

-- the same events by a table without gates
head_alone : List ℕ
head_alone = unlines (tabbed (bytes "dims FSC SSC") ∷ [])

head_answer : TableCounting
head_answer = count_table_of head_alone example_columns (replicate 64 (pos 0)) example_events

pub table_unclaimed_cases : List Case
table_unclaimed_cases =
    is (eqb answer.tally.unclaimed 1) true
    ∷ is (in_no_gate (pos 400) (pos 376)) true
    ∷ is (in_no_gate (pos 400) (pos 375)) false
    ∷ is (in_no_gate (pos 70000) (pos 0)) false
    ∷ is (eqb head_answer.tally.taken 5) true
    ∷ is (eqb head_answer.tally.unclaimed 5) true
    ∷ []

-- on the outline by its own lines: the rim of Ring, no other region
on_gate : List ℕ → ℤ → ℤ → Bool
on_gate name x y = outline_member (gates example) (x ∷ y ∷ []) name

pub table_outline_cases : List Case
table_outline_cases =
    is (on_gate (bytes "Ring") (pos 600) (pos 200)) true
    ∷ is (on_gate (bytes "Ring") (pos 400) (pos 375)) true
    ∷ is (on_gate (bytes "Ring") (pos 599) (pos 200)) false
    ∷ is (on_gate (bytes "Ring") (pos 400) (pos 376)) false
    ∷ is (on_gate (bytes "Live") (pos 400) (pos 375)) false
    ∷ is (on_gate (bytes "Hi") (pos 400) (pos 375)) false
    ∷ is (on_gate (bytes "Ring") (pos 344) (pos 368)) true
    ∷ is (in_gate (bytes "Both") (pos 344) (pos 368)) true
    ∷ is (on_gate (bytes "Both") (pos 344) (pos 368)) false
    ∷ []

-- the ellipse of 000's example with D² = 2, as a clustering package writes it
decimal_example : List ℕ
decimal_example = unlines (tabbed (bytes "dims FSC SSC") ∷ tabbed (bytes "ellip Turned - FSC SSC 40 40 1134.5 -234.50 1134.500 2.0") ∷ [])

decimal_answer : TableCounting
decimal_answer =
    count_table_of decimal_example example_columns (replicate 64 (pos 0)) (pos 77 ∷ pos 3 ∷ pos 71 ∷ pos 70 ∷ pos 40 ∷ pos 40 ∷ pos 70 ∷ pos 70 ∷ [])

in_turned : ℤ → ℤ → Bool
in_turned x y = member (gates decimal_example) (x ∷ y ∷ []) (bytes "Turned")

on_turned : ℤ → ℤ → Bool
on_turned x y = outline_member (gates decimal_example) (x ∷ y ∷ []) (bytes "Turned")

pub table_decimal_cases : List Case
table_decimal_cases =
    is (same_words (lent decimal_answer.words decimal_answer.slice) turned_plan) true
    ∷ is (same (take 2 decimal_answer.tally.counts) (3 ∷ 0 ∷ [])) true
    ∷ is (eqb decimal_answer.tally.taken 4) true
    ∷ is (in_turned (pos 77) (pos 3)) true
    ∷ is (on_turned (pos 77) (pos 3)) true
    ∷ is (in_turned (pos 76) (pos 3)) true
    ∷ is (on_turned (pos 76) (pos 3)) false
    ∷ is (in_turned (pos 71) (pos 70)) false
    ∷ []

-- the ellipsoid that EllipsoidCases of counter works by hand, from its line
ellipsoid_example : List ℕ
ellipsoid_example = unlines (tabbed (bytes "dims FSC SSC RED") ∷ tabbed (bytes "ellip3 Tilted - FSC SSC RED 100 200 300 7 2 1 5 -1 3 7") ∷ [])

ellipsoid_answer : TableCounting
ellipsoid_answer =
    count_table_of ellipsoid_example (tabbed (bytes "FSC SSC RED")) (replicate 64 (pos 0))
    (pos 107 ∷ pos 202 ∷ pos 301 ∷ pos 106 ∷ pos 202 ∷ pos 301 ∷ pos 107 ∷ pos 202 ∷ pos 300 ∷ pos 93 ∷ pos 198 ∷ pos 299 ∷ [])

in_tilted : ℤ → ℤ → ℤ → Bool
in_tilted x y z = member (gates ellipsoid_example) (x ∷ y ∷ z ∷ []) (bytes "Tilted")

on_tilted : ℤ → ℤ → ℤ → Bool
on_tilted x y z = outline_member (gates ellipsoid_example) (x ∷ y ∷ z ∷ []) (bytes "Tilted")

pub table_ellipsoid_cases : List Case
table_ellipsoid_cases =
    is (same_words (lent ellipsoid_answer.words ellipsoid_answer.slice) tilted_plan) true
    ∷ is (same (take 2 ellipsoid_answer.tally.counts) (3 ∷ 0 ∷ [])) true
    ∷ is (eqb ellipsoid_answer.tally.taken 4) true
    ∷ is (in_tilted (pos 107) (pos 202) (pos 301)) true
    ∷ is (on_tilted (pos 107) (pos 202) (pos 301)) true
    ∷ is (in_tilted (pos 106) (pos 202) (pos 301)) true
    ∷ is (on_tilted (pos 106) (pos 202) (pos 301)) false
    ∷ is (in_tilted (pos 107) (pos 202) (pos 300)) false
    ∷ []

table_cases_lem : Hold table_cases × Hold table_outline_cases × Hold table_decimal_cases × Hold table_ellipsoid_cases × Hold table_unclaimed_cases
    × (table_verdict 64 example ≡ passed)
unfolding table_cases table_outline_cases table_decimal_cases table_ellipsoid_cases ellipsoid_example ellipsoid_answer in_tilted on_tilted
    Columns.is_right table_unclaimed_cases in_no_gate head_alone head_answer Judging.unclaimed Counting.unclaimed_at Members.claimed Members.unclaimed
    same_words example_columns answer in_gate on_gate example example_events decimal_example decimal_answer in_turned on_turned
    Decimals.before_point Decimals.after_point Decimals.unsigned_thousandths Decimals.thousandths Decimals.is_whole
    Decimals.is_one_to_three Decimals.is_minus_zero
    Decimals.is_decimal Kinds.thousandths_of Rules.decimal_refusal Encoding.decimal_word Meaning.in_decimal_ellip LineOutlines.on_decimal_ellip
    DecimalEllipse.in_decimal_ellipse DecimalEllipse.decimal_ellipse_position Placing.decimal_ellipse_in
    Meaning.in_ellip3 LineOutlines.on_ellip3 Rules.ellip3_rule Ellipsoid.in_ellipsoid Ellipsoid.ellipsoid_position Placing.ellipsoid_in
    Bits.has_bit Bits.with_bit Form.spans Form.spans_by
    Form.matrix3_good Form.matrix3_word Form.ellipsoid_word Form.matrix_good Indices.all Indices.any
    Indices.how_many Indices.first_bad Words.word Range.in_range Words.on_scale Ellipse.in_ellipse Judging.value_good Judging.taken Polygon.side Polygon.between
    Polygon.on_edge Polygon.turn Polygon.crossing Polygon.edges_from Polygon.edges Polygon.on_some Polygon.crossings Polygon.in_polygon Bytes.same Lines.fields
    Lines.lines Lines.ends_in_lf Names.is_name Numbers.is_negative Numbers.unsigned Numbers.is_positive Numbers.is_number Numbers.number_value Numbers.clamp_to
    Numbers.clamp Output.over Decimals.has_point Kinds.carries_point Kinds.kind_named Kinds.is_star Kinds.is_none Kinds.is_parent Kinds.is_complement
    Kinds.operand_name Kinds.is_operand Kinds.dimension_of Kinds.value_of
    Meaning.in_poly Meaning.in_ellip Encoding.min_word Encoding.max_word Encoding.rect_word Encoding.axes_word Encoding.lower_end Encoding.upper_end
    Encoding.quadrant_min Encoding.quadrant_max Encoding.quadrant_word Meaning.parent_of Meaning.gate_of Quads.count_digit Quads.divider_at Quads.divider_value
    Quads.quadrant_count Quads.quadrant_at Quads.layout_good Refusal.kind_refusal Refusal.line_refusal Rules.rect_rule Rules.ellip_rule Rules.divider_rule
    Rules.divider_of Rules.quad_rule Rules.rule_of Rules.number_refusal Rules.optional_refusal Rules.uncrossed Rules.repeated Rules.dimension_passes
    Rules.field_refusal Rules.fields_refusal Tiling.interval Tiling.holds_interval Tiling.is_combination Tiling.holds_combination Tiling.held_once Tiling.tiles
    Compile.plan_of Compile.compile_of Head.head_fields Head.dimensions Head.is_dims Head.head_good Head.gate_lines Head.line_gate Head.gates Members.member
    Reaching.is_in Reaching.refers_to Reaching.refers_at Reaching.reaches_by Reaching.reaches_itself Refusals.unless_line Refusals.refusal_at Refusals.line_good
    Refusals.uncrowded Refusals.unrepeated Refusals.is_region Refusals.living Refusals.uncircled Refusals.size_verdict
    Refusals.gates_verdict Refusals.table_verdict
    Steps.is_written Steps.ready Steps.waiting Steps.next_region Steps.order_from Steps.order Steps.step_words Steps.plan_words Table.nth_gate Table.nth_region
    Table.apart Table.new_name Table.different Table.other_name Table.number_of Table.up_to Words.number Words.part Form.kind_of Form.earlier Form.free
    Form.parent_good Form.differs Form.dimension_good Form.box_word Form.polygon_word Form.entry Form.matrix_word
    Form.ellipse_word Form.operand_word Form.kind_at
    Form.region_at Form.length_at Form.body_at Form.next_at Form.head_word_for Form.steps_word_for Form.steps_end
    Form.width Form.step_count Form.word_good_for Form.plan_end
    Form.lowest_bad_for Form.form_for Form.check_for Placing.value_in Placing.triple_in Placing.box_in Placing.polygon_in Placing.ellipse_in Placing.operand_in
    Placing.parent_in Placing.step_in Placing.settled Placing.bits_of Judging.first_spoilt Judging.members
    Counting.event_at Counting.taken_at Counting.spoilt_at
    Counting.member_at Counting.list_from Counting.in_region Counting.tally_of Counting.count_passed Counting.count_for TableCount.count_table_of
    Meaning.in_triple Meaning.in_rect Meaning.in_quadrant Positions.ellipse_position LineOutlines.on_ellip TableOutlines.outline_member
table_cases_lem = (
  (refl, (refl, (refl, (refl, (refl, (refl, (refl, tt))))))),
  (refl, (refl, (refl, (refl, (refl, (refl, (refl, (refl, (refl, tt))))))))),
  (refl, (refl, (refl, (refl, (refl, (refl, (refl, (refl, tt)))))))),
  (refl, (refl, (refl, (refl, (refl, (refl, (refl, (refl, tt)))))))),
  (refl, (refl, (refl, (refl, (refl, (refl, tt)))))),
  refl,
)

pub marked_cases_lem : Hold (table_cases ++ marked_cases)
marked_cases_lem = hold_both table_cases marked_cases table_cases_lem.0 shape-cases

pub outline_cases_lem : Hold (table_outline_cases ++ outline_cases)
outline_cases_lem = hold_both table_outline_cases outline_cases table_cases_lem.1 position-cases

pub decimal_cases_lem : Hold (table_decimal_cases ++ decimal_cases)
decimal_cases_lem = hold_both table_decimal_cases decimal_cases table_cases_lem.2 turned-cases

pub ellipsoid_cases : Hold table_ellipsoid_cases
ellipsoid_cases = table_cases_lem.3

pub unclaimed_cases : Hold table_unclaimed_cases
unclaimed_cases = table_cases_lem.4

-- column lines by 01's worked example: its own; then the other order, a name less, a name more, a tab or a CR at the end, and nothing
pub column-lines :
    map (λ s. columns_verdict example (bytes s ∷ [])) ("FSC\tSSC" ∷ "SSC\tFSC" ∷ "FSC" ∷ "FSC\tSSC\tX" ∷ "FSC\tSSC\t" ∷ "FSC\tSSC\r" ∷ "" ∷ [])
    ≡ passed ∷ refused 31 0 ∷ refused 31 1 ∷ refused 31 2 ∷ refused 31 2 ∷ refused 31 1 ∷ refused 31 0 ∷ []
unfolding example Bytes.same Lines.fields Lines.lines Head.head_fields Head.dimensions Columns.is_right
column-lines = refl

-- of a list with a wrong one nothing is counted or written
pub columns-counted : (values : List ℤ) → count_table_of example (bytes "SSC\tFSC") (replicate 64 (pos 0)) values
    ≡ uncounted (replicate 64 (pos 0)) (refused 31 0)
unfolding example Bytes.same Lines.fields Lines.lines Head.head_fields Head.dimensions Columns.is_right
columns-counted values = columns-refused example (bytes "SSC\tFSC") (replicate 64 (pos 0)) values table_cases_lem.5 refl
