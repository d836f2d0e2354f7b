-- An ellipsoid line whose c13 and c23 are 0 holds of the events at its third mean those that the ellipse line of c11, c12, c22 holds, in its shape and on its
-- outline.
use mathlib.Core.Path.{◌≡◌, sym, ap, ◌∙◌}
use mathlib.Core.Bool.{true}
use mathlib.Core.List.{List}
use Prim.Native.Nat.{ℕ}
use lib.IntN.{ℤ, pos}
use Rattle.plans.specs.Symmetric.{symmetric_from}
use Rattle.plans.specs.Form.{matrix3_good}
use Rattle.counter.specs.Positions.{not_outside, is_on_outline, ellipse_position}
use Rattle.counter.specs.Ellipsoid.{ellipsoid_position}
use Rattle.counter.proofs.PositionLaws.{ellipse_in_lem, ellipsoid_in_lem}
use Rattle.counter.proofs.EllipsoidTheorems.{untied, untied-position}
use Rattle.gates.specs.declared.LineKind.TheVariants.{Ellip3}
use Rattle.gates.specs.Kinds.{field_at, value_of}
use Rattle.gates.specs.Gate.{Event, ellip, ellip3}
use Rattle.gates.specs.Meaning.{value_under, in_ellip, in_ellip3, holds}
use Rattle.gates.specs.Outlines.{on_ellip, on_ellip3, outline_holds}
use Rattle.gates.proofs.AcceptedLaws.{Accepted}

-- gs is the line of an ellipse with the fields of the first two measurements of fs; c13 and c23 of fs are 0
pub record FirstTwo (fs gs : List (List ℕ)) : Type 0 where
  pub dimensions : (field_at fs 3 ≡ field_at gs 3) × (field_at fs 4 ≡ field_at gs 4)
  pub means : (field_at fs 6 ≡ field_at gs 5) × (field_at fs 7 ≡ field_at gs 6)
  pub entries : (field_at fs 9 ≡ field_at gs 7) × (field_at fs 10 ≡ field_at gs 8) × (field_at fs 12 ≡ field_at gs 9)
  pub distance : field_at fs 15 ≡ field_at gs 10
  pub zeros : (value_of (field_at fs 11) ≡ pos 0) × (value_of (field_at fs 13) ≡ pos 0)

module _ (head fs gs : List (List ℕ)) (a : Accepted head Ellip3 fs) (s : FirstTwo fs gs) (e : Event)
    (at-mean : value_under head e (field_at fs 5) ≡ value_of (field_at fs 8)) where
  abbrev number : ℕ → ℤ
  number k = value_of (field_at gs k)

  good : matrix3_good (untied (number 7) (number 8) (number 9) (value_of (field_at fs 14))) ≡ true
  good = rw (s.zeros.0, s.zeros.1, s.entries.0, s.entries.1, s.entries.2) at a.matrix

  position-same :
      (let ours : ℕ → ℤ = λ k. value_of (field_at fs k) in
      ellipsoid_position (ours 6) (ours 7) (ours 8) (symmetric_from ours 9) (ours 15)
      (value_under head e (field_at fs 3)) (value_under head e (field_at fs 4)) (value_under head e (field_at fs 5))
      ≡ ellipse_position (number 5) (number 6) (number 7) (number 8) (number 9) (number 10)
      (value_under head e (field_at gs 3)) (value_under head e (field_at gs 4)))
  position-same =
      rw (
        at-mean,
        s.zeros.0,
        s.zeros.1,
        s.dimensions.0,
        s.dimensions.1,
        s.means.0,
        s.means.1,
        s.entries.0,
        s.entries.1,
        s.entries.2,
        s.distance,
      )
      (untied-position _ _ _ _ _ _ _ _ _ _ good)

  pub untied-holds : holds (ellip3 head fs) e ≡ holds (ellip head gs) e
  unfolding in_ellip3 in_ellip
  untied-holds = sym (ellipsoid_in_lem _ _ _ _ _ _ _ _) ∙ ap not_outside position-same ∙ ellipse_in_lem _ _ _ _ _ _ _ _

  pub untied-outline : outline_holds (ellip3 head fs) e ≡ outline_holds (ellip head gs) e
  unfolding on_ellip3 on_ellip
  untied-outline = ap is_on_outline position-same
