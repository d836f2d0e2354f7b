-- Laws of a text that is written part behind part: what of it is written, and what is left.
use mathlib.Core.Path.{◌≡◌, refl, sym, ◌∙◌, ap}
use mathlib.Core.List.{List, [], ◌∷◌, ◌++◌}
use Prim.Native.Nat.{ℕ, zero, suc, ◌+◌, ◌-◌, ◌≤◌}
use native.Mathlib.Omega.{arith}
use lib.ListN.{length, set, take, drop, length-append, length-drop}
use lib.Seq.{take_all, take_at, drop_at, length-take-le}
use Rattle.text.specs.Output.{over, Writes}
use Rattle.text.specs.Inner.Writing.{over_from, WritesFrom}
use Rattle.text.proofs.WritingLaws.{over-from, take_more, drop_more}

-- the first `at` bytes of t are written over d, and r is what is left of t
pub record Progress (t d : List ℕ) (at : ℕ) (x r : List ℕ) : Type 0 where
  pub below : at ≤ length t
  pub rest : drop at t ≡ r
  pub written : x ≡ over (take at t) d

module _ (t d : List ℕ) where
  pub progress_none : Progress t d 0 d t
  unfolding over
  progress_none = record { below = omega arith; rest = refl; written = refl }

  -- the first part of t is written
  pub progress_first : {c : ℕ} {x : List ℕ} (q s : List ℕ) → t ≡ q ++ s → Writes q d x c → Progress t d c x s
  progress_first {c} q s e w =
      record {
        below = omega (arith, w.0, ap length e, length-append q s);
        rest = ap (drop c) e ∙ drop_at q s c (sym w.0);
        written = w.1 ∙ ap (λ (z : List ℕ). over z d) (sym (ap (take c) e ∙ take_at q s c (sym w.0)));
      }

  pub progress_more : {at c : ℕ} {x y r : List ℕ} (q s : List ℕ) → Progress t d at x r → r ≡ q ++ s → WritesFrom at q x y c → Progress t d (at + c) y s
  progress_more {at} {c} {x} {y} q s p e w =
      let f = p.rest ∙ e in
      let k : length t - at ≡ length q + length s = sym (length-drop at t) ∙ ap length f ∙ length-append q s in
      record {
        below = omega (arith, p.below);
        rest = drop_more t q s at c w.0 f;
        written =
            over-from (take at t) d x y q at (length-take-le at t p.below) p.written w.1
            ∙ ap (λ (z : List ℕ). over z d) (sym (take_more t q s at c w.0 f));
      }

  pub progress_all : {at : ℕ} {x : List ℕ} → Progress t d at x [] → Writes t d x at
  progress_all {at} p =
      let k : length t - at ≡ 0 = sym (length-drop at t) ∙ ap length p.rest in
      (omega (arith, p.below), p.written ∙ rw (take_all at t (omega arith)))

-- one byte put at its place
pub byte_put : (d : List ℕ) (a x : ℕ) → set d a x ≡ over_from a (x ∷ []) d
unfolding over over_from
byte_put [] zero x = refl
byte_put [] (suc a) x = refl
byte_put (y ∷ d) zero x = refl
byte_put (y ∷ d) (suc a) x = ap (λ (l : List ℕ). y ∷ l) (byte_put d a x)
