-- A line with decimals that are all zeros holds whom the same line holds without them, in its shape and on its outline.
use mathlib.Core.Path.{◌≡◌, refl, sym, ap, ◌∙◌}
use mathlib.Core.List.{List}
use Prim.Native.Nat.{ℕ, ◌-◌, ◌<◌, ◌≤◌}
use native.Mathlib.Omega.{arith}
use borrow.Author.Tests.{eqb-true}
use lib.IntN.{ℤ, pos, negsuc, ◌*ℤ◌}
use lib.ListN.{length}
use Rattle.decimals.proofs.DecimalTheorems.{with_zeros, zeros-whole}
use Rattle.counter.specs.Positions.{not_outside, is_on_outline, ellipse_position}
use Rattle.counter.specs.DecimalEllipse.{decimal_ellipse_position}
use Rattle.counter.proofs.PositionLaws.{ellipse_in_lem, decimal_in}
use Rattle.counter.proofs.DecimalTheorems.{decimal-whole}
use Rattle.gates.specs.declared.LineKind.TheVariants.{Ellip, DecimalEllip}
use Rattle.gates.specs.declared.Rule.TheVariants.{Entry, Distance, DecimalEntry, DecimalDistance}
use Rattle.gates.specs.Kinds.{field_at, value_of, thousandths_of}
use Rattle.gates.specs.Rules.{no_refusal, number_refusal, decimal_refusal, ellip_rule, rule_of}
use Rattle.gates.specs.Gate.{Event, ellip, decimal_ellip}
use Rattle.gates.specs.Meaning.{value_under, in_ellip, in_decimal_ellip, holds}
use Rattle.gates.specs.Inner.Bounds.{Bound, DecimalBound}
use Rattle.gates.specs.Outlines.{on_ellip, on_decimal_ellip, outline_holds}
use Rattle.gates.proofs.AcceptedLaws.{Accepted, earned-none, number-within, value-is, thousandths-is}

-- fs is gs with zeros behind points: in each of c11, c12, c22 and D² so many, at most three, none of them without a point; all else is the same
pub record SameButZeros (fs gs : List (List ℕ)) : Type 0 where
  pub zeros : ℕ → ℕ
  pub few : (k : ℕ) → zeros k ≤ 3
  pub numbers : (k : ℕ) → 7 ≤ k → k < 11 → field_at fs k ≡ with_zeros (field_at gs k) (zeros k)
  pub others : (k : ℕ) → k < 7 → field_at fs k ≡ field_at gs k

-- a number in its range and the same with zeros in that of thousandths
thousand_times : (lo hi low high : ℤ) (x : List ℕ) (k : ℕ) → Bound lo → Bound hi → DecimalBound low → DecimalBound high → k ≤ 3
    → no_refusal ≤ number_refusal lo hi x → no_refusal ≤ decimal_refusal low high (with_zeros x k)
    → thousandths_of (with_zeros x k) ≡ pos 1000 *ℤ value_of x
thousand_times lo hi low high x k a b c d l n m =
    thousandths-is low high (with_zeros x k) c d m ∙ zeros-whole x k (number-within lo hi x a b n).0 l
    ∙ ap (λ (z : ℤ). pos 1000 *ℤ z) (sym (value-is lo hi x a b n))

module _ (head fs gs : List (List ℕ)) (decimal : Accepted head DecimalEllip fs) (whole : Accepted head Ellip gs) (z : SameButZeros fs gs) where
  decimal-fields : length fs - 3 ≡ 8
  decimal-fields = eqb-true (length fs - 3) 8 decimal.shape

  whole_fields : length gs - 3 ≡ 8
  whole_fields = eqb-true (length gs - 3) 8 whole.shape

  entry-times : (k : ℕ) → 7 ≤ k → k < 10 → rule_of Ellip gs k ≡ Entry → rule_of DecimalEllip fs k ≡ DecimalEntry
      → thousandths_of (field_at fs k) ≡ pos 1000 *ℤ value_of (field_at gs k)
  entry-times k h l e d =
      let same = z.numbers k h (omega arith) in
      rw same
      (thousand_times (negsuc 16777215) (pos 16777216) (negsuc 1999999999) (pos 2000000000) (field_at gs k) (z.zeros k) (omega arith) (omega arith)
      (omega arith) (omega arith) (z.few k) (earned-none head Ellip gs whole k (omega (arith, whole_fields)) Entry e)
      (rw same at (earned-none head DecimalEllip fs decimal k (omega (arith, decimal-fields)) DecimalEntry d)))

  distance-times : thousandths_of (field_at fs 10) ≡ pos 1000 *ℤ value_of (field_at gs 10)
  unfolding rule_of ellip_rule
  distance-times =
      let same = z.numbers 10 (omega arith) (omega arith) in
      rw same
      (thousand_times (pos 1) (pos 4096) (pos 1) (pos 4096000) (field_at gs 10) (z.zeros 10) (omega arith) (omega arith) (omega arith) (omega arith)
      (z.few 10) (earned-none head Ellip gs whole 10 (omega (arith, whole_fields)) Distance refl)
      (rw same at (earned-none head DecimalEllip fs decimal 10 (omega (arith, decimal-fields)) DecimalDistance refl)))

  module _ (e : Event) where
    position-same :
        (let mean : ℕ → ℤ = λ k. value_of (field_at fs k) in
        let number : ℕ → ℤ = λ k. thousandths_of (field_at fs k) in
        let whole : ℕ → ℤ = λ k. value_of (field_at gs k) in
        decimal_ellipse_position (mean 5) (mean 6) (number 7) (number 8) (number 9) (number 10)
        (value_under head e (field_at fs 3)) (value_under head e (field_at fs 4))
        ≡ ellipse_position (whole 5) (whole 6) (whole 7) (whole 8) (whole 9) (whole 10)
        (value_under head e (field_at gs 3)) (value_under head e (field_at gs 4)))
    unfolding rule_of ellip_rule
    position-same =
        rw (
          entry-times 7 (omega arith) (omega arith) refl refl,
          entry-times 8 (omega arith) (omega arith) refl refl,
          entry-times 9 (omega arith) (omega arith) refl refl,
          distance-times,
          z.others 3 (omega arith),
          z.others 4 (omega arith),
          z.others 5 (omega arith),
          z.others 6 (omega arith),
        )
        (decimal-whole _ _ _ _ _ _ _ _)

    pub zeros_hold : holds (decimal_ellip head fs) e ≡ holds (ellip head gs) e
    unfolding in_decimal_ellip in_ellip
    zeros_hold = sym (decimal_in _ _ _ _ _ _ _ _) ∙ ap not_outside position-same ∙ ellipse_in_lem _ _ _ _ _ _ _ _

    pub zeros-outline : outline_holds (decimal_ellip head fs) e ≡ outline_holds (ellip head gs) e
    unfolding on_decimal_ellip on_ellip
    zeros-outline = ap is_on_outline position-same
