-- Laws of specs/PlanText: a line word by word, a plan line by line.
use mathlib.Core.Path.{◌≡◌, refl, sym, ◌∙◌, ap}
use mathlib.Core.Bool.{Bool, true, false, cond}
use mathlib.Core.Logic.{⊎_elim}
use mathlib.Core.List.{List, [], ◌∷◌, ◌++◌, map, append_assoc}
use Prim.Native.Nat.{ℕ, zero, suc, ◌+◌, ◌-◌, ◌≤◌, ◌<◌}
use native.Mathlib.Omega.{arith}
use lib.Dec.{ltb}
use lib.IntN.{ℤ, pos, nat_abs}
use lib.Signed.{lt_z}
use lib.ListN.{length, get_or, drop, length-append, length-drop, drop_of_length-le}
use lib.Seq.{length-take-le}
use borrow.Author.Tests.{lt-ltb, le-ltb}
use Rattle.text.specs.Bytes.{bytes}
use Rattle.text.specs.Lines.{unlines, unfields}
use Rattle.text.specs.Output.{decimal, Writes}
use Rattle.text.specs.Inner.Writing.{WritesFrom}
use Rattle.text.proofs.TestLaws.{lt_or_ge}
use Rattle.text.proofs.BytesLaws.{rest_cons}
use Rattle.text.proofs.OutputLaws.{decimal-length}
use Rattle.events.proofs.PrintingLaws.{written-more}
use Rattle.plans.specs.Words.{word, number, part}
use Rattle.plans.specs.Refusals.{passed}
use Rattle.plans.specs.Form.{today, length_at, next_at, step_count, steps_end, plan_end, check_of}
use Rattle.plans.proofs.PlanTheorems.{passed→form}
use Rattle.runreport.proofs.RunLaws.{steps-from, head-there}
use Rattle.planreport.specs.PlanText.{word_text, words_line, step_parts, plan_parts, plan_text}
use Rattle.planreport.specs.Inner.Compiling.{ended_words}

-- ---- a word

pub word-positive : (w : ℤ) → lt_z w (pos 0) ≡ false → word_text w ≡ decimal (nat_abs w)
unfolding word_text
word-positive w h = rw h

module _ (w : ℤ) (h : lt_z w (pos 0) ≡ true) (d : List ℕ) {a c : ℕ} {x y : List ℕ} where
  pub word-negative : Writes (bytes "-") d x a → WritesFrom a (decimal (nat_abs w)) x y c → Writes (word_text w) d y (a + c)
  unfolding word_text
  word-negative v u = rw h (written-more (bytes "-") d (decimal (nat_abs w)) v u)

word-length : (w : ℤ) → length (word_text w) ≤ 21
unfolding word_text
word-length w = go (lt_z w (pos 0))
  where
    go : (b : Bool) → length (cond b (bytes "-" ++ decimal (nat_abs w)) (decimal (nat_abs w))) ≤ 21
    go true = simp length-append (omega (arith, decimal-length (nat_abs w)))
    go false = omega (arith, decimal-length (nat_abs w))

pub word-short : (w : ℤ) {k : ℕ} → k ≡ length (word_text w) → k ≤ 21
word-short w e = omega (arith, word-length w)

-- ---- a line

pub line-ended : (ws : List ℤ) → 1 ≤ length ws → words_line ws ++ (10 ∷ []) ≡ ended_words ws
unfolding words_line ended_words
line-ended [] h = absurd (omega arith)
line-ended (w ∷ []) h = refl
line-ended (w ∷ (v ∷ ws)) h =
    append_assoc (word_text w) (9 ∷ unfields (map word_text (v ∷ ws))) (10 ∷ [])
    ∙ rw (lt-ltb 0 (suc (length ws)) (omega arith)) (ap (λ (l : List ℕ). word_text w ++ (9 ∷ l)) (line-ended (v ∷ ws) (omega arith)))

-- word i and what stands behind it
module _ (ws : List ℤ) (i : ℕ) (h : i < length ws) where
  pub ended-more : ended_words (drop i ws) ≡ word_text (get_or ws i (pos 0)) ++ (cond (ltb (i + 1) (length ws)) 9 10 ∷ ended_words (drop (i + 1) ws))
  unfolding ended_words
  ended-more = rw (rest_cons ws i (pos 0) h, more)
    where
      more : ltb 0 (length (drop (i + 1) ws)) ≡ ltb (i + 1) (length ws)
      more =
          let k = length-drop (i + 1) ws in
          ⊎_elim
          (λ (l : i + 1 < length ws). lt-ltb 0 (length (drop (i + 1) ws)) (omega arith) ∙ sym (lt-ltb (i + 1) (length ws) l))
          (λ (l : length ws ≤ i + 1). le-ltb 0 (length (drop (i + 1) ws)) (omega arith) ∙ sym (le-ltb (i + 1) (length ws) l))
          (lt_or_ge (i + 1) (length ws))

pub ended-none : (ws : List ℤ) (i : ℕ) → length ws ≤ i → ended_words (drop i ws) ≡ []
unfolding ended_words
ended-none ws i h = rw (drop_of_length-le ws h)

-- ---- a plan that passes

module _ (p : List ℤ) (ok : check_of p ≡ passed) where
  pub plan-few : length p ≤ 4096
  plan-few = (passed→form today p ok).0

  pub head-length : length (part p 0 2) ≡ 2
  unfolding part
  head-length = length-take-le 2 p (head-there p ok)

  pub plan-first : plan_text p ≡ (words_line (part p 0 2) ++ (10 ∷ [])) ++ unlines (map words_line (step_parts (step_count p) p 2))
  unfolding plan_text plan_parts
  plan-first = sym (append_assoc (words_line (part p 0 2)) (10 ∷ []) (unlines (map words_line (step_parts (step_count p) p 2))))

  pub plan-ends : steps_end (step_count p) p 2 ≡ length p
  unfolding plan_end
  plan-ends = (passed→form today p ok).1.ends

pub length-is : (p : List ℤ) (at : ℕ) → length_at p at ≡ number (word p (at + 3))
unfolding length_at
length-is p at = refl

-- the steps that are left reach to the end of the plan
module _ (p : List ℤ) (left at : ℕ) (h : steps_end left p at ≡ length p) where
  pub place_inside : at ≤ length p
  place_inside = omega (arith, steps-from p left at)

  module _ (l : 0 < left) where
    left_is : left ≡ suc (left - 1)
    left_is = omega arith

    pub next_end : steps_end (left - 1) p (next_at p at) ≡ length p
    unfolding steps_end
    next_end = sym (ap (λ (k : ℕ). steps_end k p at) left_is) ∙ h

    pub next-inside : next_at p at ≤ length p
    next-inside = omega (arith, next_end, steps-from p (left - 1) (next_at p at))

    pub parts_more : step_parts left p at ≡ part p at (4 + length_at p at) ∷ step_parts (left - 1) p (next_at p at)
    unfolding step_parts
    parts_more = ap (λ (k : ℕ). step_parts k p at) left_is

    -- m words of the step, read from its length
    module _ {m : ℕ} (e : m ≡ number (word p (at + 3))) where
      pub step-inside : at + (4 + m) ≤ length p
      unfolding next_at length_at
      step-inside = omega (arith, next-inside)

      pub step-next : at + (4 + m) ≡ next_at p at
      unfolding next_at length_at
      step-next = omega arith

      pub step-length : length (part p at (4 + m)) ≡ 4 + m
      unfolding part
      step-length = length-take-le (4 + m) (drop at p) (simp length-drop (omega (arith, step-inside)))

      pub steps-more : unlines (map words_line (step_parts left p at))
          ≡ (words_line (part p at (4 + m)) ++ (10 ∷ [])) ++ unlines (map words_line (step_parts (left - 1) p (at + (4 + m))))
      unfolding length_at
      steps-more =
          rw (parts_more, step-next, ← e)
          (sym (append_assoc (words_line (part p at (4 + m))) (10 ∷ []) (unlines (map words_line (step_parts (left - 1) p (next_at p at))))))

pub steps-none : (p : List ℤ) (left at : ℕ) → left ≤ 0 → unlines (map words_line (step_parts left p at)) ≡ []
unfolding step_parts
steps-none p zero at h = refl
steps-none p (suc left) at h = absurd (omega arith)
