-- An accepted line of an ellipse with decimals holds the events of 01's rule over the exact values of its fields.
use mathlib.Core.Path.{◌≡◌, refl, sym, ap, ◌∙◌}
use mathlib.Core.List.{List}
use Prim.Native.Nat.{ℕ, ◌-◌, ◌<◌}
use native.Mathlib.Omega.{arith}
use borrow.Author.Tests.{eqb-true}
use lib.IntN.{ℤ, pos, negsuc}
use lib.ListN.{length}
use Rattle.decimals.specs.Decimals.{thousandths}
use Rattle.counter.specs.Positions.{not_outside, is_on_outline}
use Rattle.counter.specs.DecimalEllipse.{decimal_ellipse_position}
use Rattle.counter.proofs.DecimalTheorems.{Fraction, in_thousandths, position_f, decimal-exact}
use Rattle.counter.proofs.PositionLaws.{decimal_in}
use Rattle.counter.specs.declared.Position.{Position}
use Rattle.gates.specs.declared.LineKind.TheVariants.{DecimalEllip}
use Rattle.gates.specs.declared.Rule.TheVariants.{DecimalEntry, DecimalDistance}
use Rattle.gates.specs.Kinds.{field_at, value_of, thousandths_of}
use Rattle.gates.specs.Rules.{ellip_rule, rule_of}
use Rattle.gates.specs.Gate.{Event, decimal_ellip}
use Rattle.gates.specs.Meaning.{value_under, in_decimal_ellip, holds}
use Rattle.gates.specs.Outlines.{on_decimal_ellip, outline_holds}
use Rattle.gates.proofs.AcceptedLaws.{Accepted, earned-none, thousandths-is}

module _ (head fs : List (List ℕ)) (a : Accepted head DecimalEllip fs) where
  eight : length fs - 3 ≡ 8
  eight = eqb-true (length fs - 3) 8 a.shape

  entry-exact : (k : ℕ) → k < 10 → rule_of DecimalEllip fs k ≡ DecimalEntry → thousandths_of (field_at fs k) ≡ thousandths (field_at fs k)
  entry-exact k l e =
      thousandths-is (negsuc 1999999999) (pos 2000000000) (field_at fs k) (omega arith) (omega arith)
      (earned-none head DecimalEllip fs a k (omega (arith, eight)) DecimalEntry e)

  distance-exact : thousandths_of (field_at fs 10) ≡ thousandths (field_at fs 10)
  unfolding rule_of ellip_rule
  distance-exact =
      thousandths-is (pos 1) (pos 4096000) (field_at fs 10) (omega arith) (omega arith)
      (earned-none head DecimalEllip fs a 10 (omega (arith, eight)) DecimalDistance refl)

  module _ (e : Event) where
    -- 01's rule over the means, the exact decimal values of the four, as fractions, and the event's two values
    abbrev exactly : Position
    exactly =
        let exact : ℕ → Fraction = λ k. in_thousandths (thousandths (field_at fs k)) in
        position_f (value_of (field_at fs 5)) (value_of (field_at fs 6)) (exact 7) (exact 8) (exact 9) (exact 10)
        (value_under head e (field_at fs 3)) (value_under head e (field_at fs 4))

    position-exact :
        (let number : ℕ → ℤ = λ k. thousandths_of (field_at fs k) in
        decimal_ellipse_position (value_of (field_at fs 5)) (value_of (field_at fs 6)) (number 7) (number 8) (number 9) (number 10)
        (value_under head e (field_at fs 3)) (value_under head e (field_at fs 4))
        ≡ exactly)
    unfolding rule_of ellip_rule
    position-exact =
        rw (entry-exact 7 (omega arith) refl, entry-exact 8 (omega arith) refl, entry-exact 9 (omega arith) refl, distance-exact)
        (sym (decimal-exact _ _ _ _ _ _ _ _))

    pub line-holds-exactly : holds (decimal_ellip head fs) e ≡ not_outside exactly
    unfolding in_decimal_ellip
    line-holds-exactly = sym (decimal_in _ _ _ _ _ _ _ _) ∙ ap not_outside position-exact

    pub line-outline-exactly : outline_holds (decimal_ellip head fs) e ≡ is_on_outline exactly
    unfolding on_decimal_ellip
    line-outline-exactly = ap is_on_outline position-exact
