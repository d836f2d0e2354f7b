-- Decoded steps by their kind: what is known of a body of good words, and whom a shape holds. A new kind has a row in each law at the end.
use mathlib.Core.Path.{◌≡◌, refl, sym}
use mathlib.Core.Bool.{Bool, true, not}
use mathlib.Core.List.{List}
use Prim.Native.Nat.{ℕ, zero, suc, ◌+◌, ◌-◌, ◌*◌, ◌/◌, ◌%◌, ◌<◌, ◌≤◌}
use native.Mathlib.Omega.{arith}
use native.Mathlib.Decide.{dec_lt}
use lib.IntN.{ℤ, pos, negsuc}
use lib.ListN.{length, get_or, drop, length-drop, get_or-eq_default}
use lib.Seq.{get_or-drop}
use lib.Signed.{le_z, ◌≤ℤ◌, ◌<ℤ◌, le_z_yes, lt_z_yes}
use lib.Dec.{T, eqb, ltb, leb, lit<}
use borrow.Author.Tests.{eq-eqb, ne_eqb, le-ltb, ltb-true, leb-true, eqb-true}
use Rattle.integers.specs.Inner.Bounds.{In}
use Rattle.integers.specs.Range.{in_range}
use Rattle.plans.specs.Indices.{all, any}
use Rattle.plans.specs.Words.{word, number, on_scale}
use Rattle.plans.specs.Form.{dimension_good, box_word, polygon_word, entry, matrix_word, ellipse_word, matrix3_word, ellipsoid_word, operand_word, body_word}
use Rattle.plans.specs.Kinds.{length_good}
use Rattle.plans.specs.declared.Kind.{Kind}
use Rattle.plans.specs.declared.Kind.TheVariants as K
use Rattle.plans.proofs.IndexLaws.{clash, and_both}
use Rattle.plans.proofs.WordLaws.{word-there}
use Rattle.plans.proofs.KindLaws.{by_both, length_range, earlier-low}
use Rattle.counter.specs.Inner.Ranges.{OnScale, Vertices, Fields}
use Rattle.counter.specs.Members.{value_in, box_in, polygon_in, ellipse_in, decimal_ellipse_in, ellipsoid_in, operand_in, shape_in}
use Rattle.counter.specs.Positions.{not_outside, is_on_outline}
use Rattle.counter.specs.Outlines.{polygon_on, ellipse_on, decimal_ellipse_on, ellipsoid_on, shape_on}
use Rattle.counter.specs.Inner.Steps.{plane_of, oval_of, space_of, solid_of, step_of, head_of, position_in, BoxBody, PlaneWithin, SpaceWithin, SolidWithin, Operands, StepShaped}
use Rattle.counter.specs.declared.steps.Head.{Head}
use Rattle.counter.proofs.PositionLaws.{polygon_in_lem, ellipse_in_lem, decimal_in, ellipsoid_in_lem, without-outline_tells}

-- ---- ranges

pub on_scale_lem : (w : ℤ) → on_scale w ≡ true → OnScale w
unfolding on_scale in_range
on_scale_lem (pos u) e = let h = leb-true u 65535 (and_both (le_z (negsuc 65535) (pos u)) (le_z (pos u) (pos 65535)) e).1 in omega arith
on_scale_lem (negsuc u) e = let h = leb-true u 65535 (and_both (le_z (negsuc 65535) (negsuc u)) (le_z (negsuc u) (pos 65535)) e).0 in omega arith

entry_in : (most : ℕ) (w : ℤ) → entry (pos most) w ≡ true → In most w
unfolding entry in_range
entry_in zero (pos u) e = let h = leb-true u 0 (and_both (le_z (pos 0) (pos u)) (le_z (pos u) (pos 0)) e).1 in record { abs = omega arith }
entry_in zero (negsuc u) e = absurd (clash (sym e))
entry_in (suc most) (pos u) e = let h = leb-true u (suc most) (and_both true (leb u (suc most)) e).1 in record { abs = omega arith }
entry_in (suc most) (negsuc u) e = let h = leb-true u most (and_both (leb u most) true e).0 in record { abs = omega arith }

from-true : {b : Bool} → b ≡ true → T b
from-true e = rw e tt

range_from : (lo hi w : ℤ) → in_range lo hi w ≡ true → lo ≤ℤ w
unfolding in_range
range_from lo hi w e = le_z_yes (from-true (and_both (le_z lo w) (le_z w hi) e).0)

range_to : (lo hi w : ℤ) → in_range lo hi w ≡ true → w ≤ℤ hi
unfolding in_range
range_to lo hi w e = le_z_yes (from-true (and_both (le_z lo w) (le_z w hi) e).1)

dimension-below : (n : ℕ) (body : List ℤ) (s t : ℕ) → dimension_good n body s t ≡ true → number (word body (s * t)) < n
unfolding dimension_good
dimension-below n body s t e = ltb-true (number (word body (s * t))) n (and_both (ltb (number (word body (s * t))) n) _ e).0

-- ---- bodies

abbrev GoodWords : Kind → ℕ → ℕ → ℕ → List ℤ → Type 0
GoodWords kind n k set body = (i : ℕ) → i < length body → body_word kind n k set body i ≡ true

module _ (n k set : ℕ) (body : List ℤ) where
  box-body : length_good K.Box (length body) ≡ true → GoodWords K.Box n k set body → BoxBody n body
  unfolding box_word
  box-body e good = record { threes = (by_both 3 3 24 (length body) e).2; dimension = at; rising = above }
    where
      at : (i : ℕ) → i < length body → i % 3 ≡ 0 → number (word body i) < n
      at i l z =
          let q : 3 * (i / 3) ≡ i = omega arith in
          rw q at (dimension-below n body 3 (i / 3) (rw (eq-eqb (i % 3) 0 z) at (good i l)))

      above : (i : ℕ) → i + 2 < length body → i % 3 ≡ 0 → word body (i + 1) <ℤ word body (i + 2)
      above i l z =
          let w = rw (ne_eqb ((i + 2) % 3) 0 (λ q. omega arith), ne_eqb ((i + 2) % 3) 1 (λ q. omega arith)) at (good (i + 2) l) in
          let q : i + 2 - 1 ≡ i + 1 = omega arith in
          lt_z_yes (from-true (rw q at (and_both (in_range (negsuc 65534) (pos 65536) (word body (i + 2))) _ w).1))

  plane-within : dimension_good n body 1 0 ≡ true → dimension_good n body 1 1 ≡ true → PlaneWithin n (plane_of body)
  unfolding plane_of
  plane-within e f = record { x_within = dimension-below n body 1 0 e; y_within = dimension-below n body 1 1 f }

  polygon_body : length_good K.Polygon (length body) ≡ true → GoodWords K.Polygon n k set body
      → PlaneWithin n (plane_of body) × (2 ≤ length body) × Vertices (drop 2 body)
  unfolding polygon_word
  polygon_body e good =
      let b = by_both 2 8 514 (length body) e in (
        plane-within (good 0 (omega arith)) (good 1 (omega arith)),
        omega arith,
        record { three = simp length-drop (omega arith); even = simp length-drop (omega (arith, b.2)); on_scale = at },
      )
    where
      at : (i : ℕ) → OnScale (get_or (drop 2 body) i (pos 0))
      at i = go (dec_lt (2 + i) (length body))
        where
          go : Dec (2 + i < length body) → OnScale (get_or (drop 2 body) i (pos 0))
          go (yes l) = rw (get_or-drop, word-there body (2 + i) l) (on_scale_lem (word body (2 + i)) (rw (le-ltb (2 + i) 2 (omega arith)) at (good (2 + i) l)))
          go (no l) = rw (get_or-eq_default (drop 2 body) (pos 0) {n = i} (simp length-drop (omega arith))) (lit< tt)

  -- an ellipse, whatever the ranges of its entries and of its D²
  ellipse-body : (most far : ℕ) → eqb (length body) 8 ≡ true → ((i : ℕ) → i < length body → ellipse_word (pos most) (pos far) n body i ≡ true)
      → PlaneWithin n (plane_of body) × (8 ≤ length body) × Fields most far (word body 2) (word body 3) (word body 4) (word body 5) (word body 6) (word body 7)
  unfolding ellipse_word matrix_word
  ellipse-body most far e good =
      let m = eqb-true (length body) 8 e in (
        plane-within (good 0 (omega arith)) (good 1 (omega arith)),
        omega arith,
        record {
          m1_on = on_scale_lem (word body 2) (good 2 (omega arith));
          m2_on = on_scale_lem (word body 3) (good 3 (omega arith));
          c11_in = entry_in most (word body 4) (and_both (entry (pos most) (word body 4)) _ (good 4 (omega arith))).0;
          c12_in = entry_in most (word body 5) (good 5 (omega arith));
          c22_in = entry_in most (word body 6) (good 6 (omega arith));
          d2_from = range_from (pos 1) (pos far) (word body 7) (good 7 (omega arith));
          d2_to = range_to (pos 1) (pos far) (word body 7) (good 7 (omega arith));
        },
      )

  space_within : dimension_good n body 1 0 ≡ true → dimension_good n body 1 1 ≡ true → dimension_good n body 1 2 ≡ true → SpaceWithin n (space_of body)
  unfolding space_of
  space_within e f g =
      record { x_within = dimension-below n body 1 0 e; y_within = dimension-below n body 1 1 f; z_within = dimension-below n body 1 2 g }

  ellipsoid-body : eqb (length body) 13 ≡ true → GoodWords K.Ellipsoid n k set body
      → SpaceWithin n (space_of body) × (13 ≤ length body) × SolidWithin (solid_of body)
  unfolding solid_of ellipsoid_word matrix3_word
  ellipsoid-body e good =
      let m = eqb-true (length body) 13 e in
      let at : (i : ℕ) → i < 13 → ellipsoid_word n body i ≡ true = λ i l. good i (omega arith) in (
        space_within (at 0 (lit< tt)) (at 1 (lit< tt)) (at 2 (lit< tt)),
        omega arith,
        record {
          m1_on = on_scale_lem (word body 3) (at 3 (lit< tt));
          m2_on = on_scale_lem (word body 4) (at 4 (lit< tt));
          m3_on = on_scale_lem (word body 5) (at 5 (lit< tt));
          c11_in = entry_in 16777216 (word body 6) (and_both (entry (pos 16777216) (word body 6)) _ (at 6 (lit< tt))).0;
          c12_in = entry_in 16777216 (word body 7) (at 7 (lit< tt));
          c13_in = entry_in 16777216 (word body 8) (at 8 (lit< tt));
          c22_in = entry_in 16777216 (word body 9) (at 9 (lit< tt));
          c23_in = entry_in 16777216 (word body 10) (at 10 (lit< tt));
          c33_in = entry_in 16777216 (word body 11) (at 11 (lit< tt));
          d2_from = range_from (pos 1) (pos 4096) (word body 12) (at 12 (lit< tt));
          d2_to = range_to (pos 1) (pos 4096) (word body 12) (at 12 (lit< tt));
        },
      )

  operands : 0 < length body → k ≤ 64 → ((i : ℕ) → i < length body → operand_word k set body i ≡ true) → Operands body
  unfolding operand_word
  operands some few good =
      record { some = some; region = λ i l. let h = earlier-low k set (number (word body i) / 2) few (good i l) in omega arith }

-- ---- a row for each kind

-- a decoded step of a body of good words has the shape that the code reads
pub shaped : (kind : Kind) (h : Head) (n k set : ℕ) (body : List ℤ) → k ≤ 64 → length_good kind (length body) ≡ true
    → GoodWords kind n k set body → StepShaped (step_of kind h body) n body
unfolding oval_of
shaped K.Box h n k set body few e good = box-body n k set body e good
shaped K.Polygon h n k set body few e good = polygon_body n k set body e good
shaped K.Ellipse h n k set body few e good = ellipse-body n k set body 16777216 4096 e good
shaped K.And h n k set body few e good = operands n k set body (length_range K.And (length body) e).0 few good
shaped K.Or h n k set body few e good = operands n k set body (length_range K.Or (length body) e).0 few good
shaped K.Not h n k set body few e good = operands n k set body (length_range K.Not (length body) e).0 few good
shaped K.DecimalEllipse h n k set body few e good = ellipse-body n k set body 2000000000 4096000 e good
shaped K.Ellipsoid h n k set body few e good = ellipsoid-body n k set body e good
shaped K.Unknown h n k set body few e good = tt

-- the position of an event to it says whether the event is in the shape, and whether it is on the shape's outline
pub position_tells : (kind : Kind) (h : Head) (event : List ℤ) (bits : ℕ) (body : List ℤ)
    → (not_outside (position_in (step_of kind h body) event bits body) ≡ shape_in kind event bits body)
    × (is_on_outline (position_in (step_of kind h body) event bits body) ≡ shape_on kind event body)
unfolding plane_of oval_of space_of solid_of polygon_in ellipse_in decimal_ellipse_in ellipsoid_in polygon_on
    ellipse_on decimal_ellipse_on ellipsoid_on value_in
position_tells K.Box h event bits body = without-outline_tells (box_in event body)
position_tells K.Polygon h event bits body = (polygon_in_lem _ _ _, refl)
position_tells K.Ellipse h event bits body = (ellipse_in_lem _ _ _ _ _ _ _ _, refl)
position_tells K.And h event bits body = without-outline_tells (all (operand_in bits body) (length body))
position_tells K.Or h event bits body = without-outline_tells (any (operand_in bits body) (length body))
position_tells K.Not h event bits body = without-outline_tells (not (operand_in bits body 0))
position_tells K.DecimalEllipse h event bits body = (decimal_in _ _ _ _ _ _ _ _, refl)
position_tells K.Ellipsoid h event bits body = (ellipsoid_in_lem _ _ _ _ _ _ _ _, refl)
position_tells K.Unknown h event bits body = (refl, refl)

-- it keeps its header
pub head_step : (kind : Kind) (h : Head) (body : List ℤ) → head_of (step_of kind h body) ≡ h
head_step K.Box h body = refl
head_step K.Polygon h body = refl
head_step K.Ellipse h body = refl
head_step K.And h body = refl
head_step K.Or h body = refl
head_step K.Not h body = refl
head_step K.DecimalEllipse h body = refl
head_step K.Ellipsoid h body = refl
head_step K.Unknown h body = refl
