-- The words that are written for a region: operand by operand, by the kind of its line; of a settled table they are its step.
use mathlib.Core.Path.{◌≡◌, refl, ap, ◌∙◌}
use mathlib.Core.Bool.{Bool, true, false, not}
use mathlib.Core.List.{List, [], ◌++◌}
use Prim.Native.Nat.{ℕ, ◌+◌, ◌≤◌, ◌<◌, min}
use native.Mathlib.Omega.{arith}
use borrow.Author.Tests.{ltb-true}
use lib.IntN.{ℤ}
use lib.ListN.{length, get_or, drop, set}
use Rattle.text.specs.Bounded.{tab}
use Rattle.text.specs.Lines.{fields, lines}
use Rattle.text.specs.Output.{over, Writes}
use Rattle.gates.specs.Gate.{Region}
use Rattle.gates.specs.Kinds.{field_at, line_kind, is_none, is_complement, operand_name}
use Rattle.gates.specs.Inner.Regions.{region_count, combines, body_word_of}
use Rattle.tables.specs.Head.{head_fields, dimensions}
use Rattle.tables.specs.Table.{number_of}
use Rattle.tables.specs.Refusals.{is_region}
use Rattle.tables.specs.Steps.{step_words}
use Rattle.linenames.specs.Inner.LineNames.{has_reference, reference_at}
use Rattle.linenames.proofs.LineLaws.{end_past}
use Rattle.resolve.specs.Inner.Reading.{line_at, fields_at, regions_at}
use Rattle.resolve.proofs.ReadLaws.{count_fits, region-read}
use Rattle.resolve.proofs.LivingLaws.{living-here}
use Rattle.writer.specs.Inner.Words.{header, operand_number_word, step_by, operand_at, parent_number, line_step}
use Rattle.writer.proofs.WordLaws.{step-more}
use Rattle.writer.proofs.StepTheorems.{line_step_lem, line-step-short}
use Rattle.tableregions.specs.Inner.Settled.{Settled}
use Rattle.tableregions.specs.Inner.Located.{located_at}
use Rattle.tableregions.proofs.PlaceLaws.{gate_inside, quadrant-inside, place_is}

-- ---- one operand more

pub operand_more : (k r p m : ℕ) (rs : List Region) (fs : List (List ℕ)) (d : List ℤ) (j : ℕ) {x : List ℤ}
    → x ≡ over (header k r p m ++ tab (operand_at rs fs) j) d → {f y : List ℕ} → f ≡ field_at fs (3 + j) → y ≡ operand_name f
    → {number : ℕ} → number ≡ min 64 (number_of rs y) → {b : Bool} → b ≡ is_complement f
    → set x (4 + j) (operand_number_word number b) ≡ over (header k r p m ++ tab (operand_at rs fs) (j + 1)) d
unfolding operand_at
operand_more k r p m rs fs d j e f y number b = rw (number, y, b, f, e) (step-more k r p m (operand_at rs fs) d j)

-- ---- by the kind of the line

module _ (text starts : List ℕ) (n gate quadrant region : ℕ) {line : List ℕ} (a : line ≡ line_at text starts gate) {parent : ℕ}
    (p : parent ≡ parent_number (regions_at text starts n) (fields line)) {c : Bool} (k : c ≡ combines (line_kind (fields line))) where
  -- what is promised where d was lent, with x afterwards, and r answered
  module _ (d : List ℤ) {x : List ℤ} {r : ℕ} where
    joined : (q : List ℤ) → q ≡ line_step (dimensions text) (regions_at text starts n) (fields_at text starts gate) quadrant region → Writes q d x r
        → Writes (line_step (dimensions text) (regions_at text starts n) (fields_at text starts gate) quadrant region) d x r
    joined q e w = (w.0 ∙ ap length e, w.1 ∙ ap (λ (l : List ℤ). over l d) e)

    pub combination-written : c ≡ true → Writes (step_by (fields line) region parent (operand_at (regions_at text starts n) (fields line))) d x r
        → Writes (line_step (dimensions text) (regions_at text starts n) (fields_at text starts gate) quadrant region) d x r
    unfolding line_step fields_at
    combination-written t w = joined (step_by (fields line) region parent (operand_at (regions_at text starts n) (fields line))) (rw (← a, ← p, ← k, t)) w

    pub leaf-written : c ≡ false → {head : List ℕ} → head ≡ get_or (lines text) 0 []
        → Writes (step_by (fields line) region parent (body_word_of (drop 1 (fields head)) (fields line) quadrant)) d x r
        → Writes (line_step (dimensions text) (regions_at text starts n) (fields_at text starts gate) quadrant region) d x r
    unfolding line_step fields_at dimensions head_fields
    leaf-written t {head} g w =
        joined (step_by (fields line) region parent (body_word_of (drop 1 (fields head)) (fields line) quadrant)) (rw (← a, ← p, ← k, t, ← g)) w

-- ---- of a settled table

module _ (text starts : List ℕ) (n gate quadrant region : ℕ) (s : Settled text starts n) (h : gate < n)
    (l : quadrant < region_count (fields_at text starts gate))
    (e : region ≡ length (regions_at text starts gate) + quadrant) where
  below : region < length (regions_at text starts n)
  below = omega (arith, count_fits text starts n gate h)

  -- a parent that is named is a region
  parent-below : is_none (field_at (fields_at text starts gate) 2) ≡ false → number_of (regions_at text starts n) (field_at (fields_at text starts gate) 2) < 64
  unfolding has_reference reference_at is_region
  parent-below f =
      let few = s.few in
      omega (
        arith,
        few,
        ltb-true (number_of (regions_at text starts n) (field_at (fields_at text starts gate) 2)) (length (regions_at text starts n))
            (living-here text starts n gate h (s.alive gate h) 2 (omega arith) (end_past (dimensions text) (fields_at text starts gate)) (ap not f)),
      )

  pub step_is : line_step (dimensions text) (regions_at text starts n) (fields_at text starts gate) quadrant region
      ≡ step_words (regions_at text starts n) region
  step_is =
      line_step_lem (regions_at text starts n) s.few region below (dimensions text) (fields_at text starts gate) s.narrow (s.good gate h) quadrant l
      (rw e (region-read text starts n gate h quadrant l)) parent-below

  short : length (step_words (regions_at text starts n) region) ≤ 65539
  short =
      line-step-short (regions_at text starts n) s.few region below (dimensions text) (fields_at text starts gate) s.narrow (s.good gate h) quadrant l
      (rw e (region-read text starts n gate h quadrant l)) parent-below

-- a step of a settled table has at most 65,539 words
pub step-short : (text starts : List ℕ) (n r : ℕ) → Settled text starts n → r < length (regions_at text starts n)
    → length (step_words (regions_at text starts n) r) ≤ 65539
step-short text starts n r s h =
    let at = located_at text starts n r in
    let inside = gate_inside text starts n r {x = at} refl h in
    short text starts n at.gate at.quadrant r s inside (quadrant-inside text starts n r {x = at} refl inside) (place_is text starts n r {x = at} refl)
