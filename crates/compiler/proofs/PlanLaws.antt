-- The plan: two numbers, and the steps behind them.
use mathlib.Core.Path.{◌≡◌, refl, ◌∙◌}
use mathlib.Core.List.{List, [], ◌∷◌, ◌++◌}
use Prim.Native.Nat.{ℕ, ◌+◌, ◌-◌, ◌≤◌, min}
use native.Mathlib.Omega.{arith}
use lib.IntN.{ℤ, pos}
use lib.ListN.{length, get_or, set, take, drop}
use Rattle.text.specs.Lines.{lines, fields}
use Rattle.text.specs.Output.{over}
use Rattle.text.proofs.WritingLaws.{over-lent, over-from}
use Rattle.gates.specs.Gate.{Region}
use Rattle.tables.specs.Head.{head_fields, dimensions}
use Rattle.tables.specs.Steps.{order, steps_words, plan_words}
use Rattle.writer.specs.Inner.Words.{number_word}
use Rattle.writer.proofs.StepTheorems.{number-kept}

two-words : (d : List ℤ) (a b : ℤ) → set (set d 0 a) 1 b ≡ over (a ∷ b ∷ []) d
unfolding over
two-words [] a b = refl
two-words (u ∷ []) a b = refl
two-words (u ∷ v ∷ d) a b = refl

module _ (n : ℕ) (rs : List Region) (narrow : n ≤ 8) (few : length rs ≤ 64) where
  pub plan-length : {x : ℕ} → x ≡ length (steps_words rs (order rs)) → 2 + x ≡ length (plan_words n rs)
  unfolding plan_words
  plan-length e = omega (arith, e)

  pub plan-put : (d : List ℤ) {m : ℕ} → m ≡ n → {w : List ℤ} → w ≡ set d 0 (number_word m) → {total : ℕ} → total ≡ length rs → {x : List ℤ}
      → x ≡ set w 1 (number_word total) → {b : ℕ} → b ≡ min 2 (length x)
      → {y : List ℤ} → y ≡ over (steps_words rs (order rs)) (take (length x - b) (drop b x))
      → take b x ++ (y ++ drop (length x - b) (drop b x)) ≡ over (plan_words n rs) d
  unfolding plan_words
  plan-put d i j k {x} e {b} f {y} g =
      let w : x ≡ over (pos n ∷ pos (length rs) ∷ []) d =
      e ∙ rw (j, i, k, number-kept n (omega arith), number-kept (length rs) (omega arith)) (two-words d (pos n) (pos (length rs))) in
      over-from (pos n ∷ pos (length rs) ∷ []) d x _ (steps_words rs (order rs)) 2 refl w (over-lent x 2 b f (steps_words rs (order rs)) y g)

-- the dimensions are counted on line 1
pub dims-read : (text : List ℕ) {head : List ℕ} → head ≡ get_or (lines text) 0 [] → {n : ℕ} → n ≡ length (drop 1 (fields head)) → n ≡ length (dimensions text)
unfolding dimensions head_fields
dims-read text e f = rw (← e) f
