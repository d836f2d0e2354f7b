-- How long a plan's text is.
use mathlib.Core.Path.{◌≡◌, sym, ◌∙◌, ap}
use mathlib.Core.Bool.{true, false}
use mathlib.Core.Logic.{◌⊎◌, inl, inr, ⊎_elim}
use mathlib.Core.List.{List, [], ◌∷◌, ◌++◌, map}
use Prim.Native.Nat.{ℕ, zero, suc, ◌+◌, ◌*◌, ◌/◌, ◌^◌, ◌≤◌, ◌<◌}
use native.Mathlib.Nat.{mul-add, mul-suc}
use native.Mathlib.Omega.{arith}
use lib.Dec.{eqb}
use lib.IntN.{ℤ, pos, negsuc}
use lib.ListN.{length, get_or, length-append}
use lib.Seq.{get_or-drop, get_or-take}
use borrow.Author.Tests.{eqb-true}
use Rattle.text.specs.Bytes.{every}
use Rattle.text.specs.Lines.{unlines}
use Rattle.text.specs.Output.{decimal}
use Rattle.text.proofs.TestLaws.{and_left, and_right, passed_or_failed, lt_or_ge}
use Rattle.text.proofs.OutputLaws.{tenth, decimal-low, decimal-high}
use Rattle.plans.specs.Words.{part}
use Rattle.plans.specs.Refusals.{passed}
use Rattle.plans.specs.Form.{length_at, next_at, step_count, steps_end, check_of}
use Rattle.tables.specs.Refusals.{table_verdict}
use Rattle.tables.specs.Compile.{plan_of}
use Rattle.tables.proofs.CompileLaws.{plan-passes}
use Rattle.compiler.proofs.VerdictLaws.{number-accepted}
use Rattle.events.specs.Printing.{unless_refused}
use Rattle.runreport.specs.PlanReading.{fits_word}
use Rattle.runreport.proofs.RunLaws.{head-there}
use Rattle.runreport.proofs.RunTheorems.{refused-length}
use Rattle.planreport.specs.PlanText.{word_text, words_line, step_parts, plan_text}
use Rattle.planreport.specs.PlanReport.{plan_report_of}
use Rattle.planreport.specs.Inner.Compiling.{ended_words}
use Rattle.planreport.proofs.TextLaws.{line-ended, plan-few, head-length, plan-first, plan-ends, length-is, step-inside, step-next, step-length}
use Rattle.planreport.proofs.ReadBack.{text-pos, text-neg, fits-pos, fits_neg}
use Rattle.planreport.proofs.FittingLaws.{words-fit}

-- the text of each word is shorter than b
abbrev pub ShortWords : ℕ → List ℤ → Type 0
ShortWords b ws = (i : ℕ) → i < length ws → length (word_text (get_or ws i (pos 0))) < b

module _ (b : ℕ) where
  -- a word takes b bytes with what stands behind it
  ended-length : (ws : List ℤ) → ShortWords b ws → length (ended_words ws) ≤ b * length ws
  unfolding ended_words
  ended-length [] s = omega arith
  ended-length (w ∷ ws) s =
      let first = s 0 (omega arith) in
      let rest = ended-length ws (λ i h. s (suc i) (omega arith)) in
      let k : b * suc (length ws) ≡ b * length ws + b = mul-suc b (length ws) in
      simp length-append (omega (arith, first, rest, k))

  line-length : (ws : List ℤ) → 1 ≤ length ws → ShortWords b ws → length (words_line ws ++ (10 ∷ [])) ≤ b * length ws
  line-length ws h s = rw (line-ended ws h) (ended-length ws s)

  -- the words of a part of p are words of p
  part-short : (p : List ℤ) (at m : ℕ) → at + m ≤ length p → length (part p at m) ≡ m → ShortWords b p → ShortWords b (part p at m)
  unfolding part
  part-short p at m h e s i l =
      let k : i < m = omega arith in
      rw (get_or-take, get_or-drop) (s (at + i) (omega arith))

  -- the lines of the steps that are left take b bytes for each of their words
  steps-length : (p : List ℤ) → ShortWords b p → (left at : ℕ) → steps_end left p at ≡ length p
      → b * at + length (unlines (map words_line (step_parts left p at))) ≤ b * length p
  unfolding steps_end step_parts
  steps-length p s zero at h = rw (← h) (omega arith)
  steps-length p s (suc left) at h =
      let m : ℕ = 4 + length_at p at in
      let inside : at + m ≤ length p = step-inside p (suc left) at h (omega arith) (length-is p at) in
      let long : length (part p at m) ≡ m = step-length p (suc left) at h (omega arith) (length-is p at) in
      let next : at + m ≡ next_at p at = step-next p (suc left) at h (omega arith) (length-is p at) in
      let line = rw long at (line-length (part p at m) (omega arith) (part-short p at m inside long s)) in
      let rest = steps-length p s left (next_at p at) h in
      let more : b * next_at p at ≡ b * at + b * m = ap (λ (k : ℕ). b * k) (sym next) ∙ mul-add b at m in
      simp length-append (omega (arith, line, rest, more, length-append (words_line (part p at m)) (10 ∷ [])))

  pub plan-length : (p : List ℤ) → check_of p ≡ passed → ShortWords b p → length (plan_text p) ≤ b * length p
  plan-length p ok s =
      let long = head-length p ok in
      let line = rw long at (line-length (part p 0 2) (omega arith) (part-short p 0 2 (head-there p ok) long s)) in
      let rest = steps-length p s (step_count p) 2 (plan-ends p ok) in
      rw (plan-first p ok) (simp length-append (omega (arith, line, rest, length-append (words_line (part p 0 2)) (10 ∷ []))))

-- ---- at most 11 bytes for a word, and one behind it

digits-few : (k n : ℕ) → n < 10 ^ suc k → n < 10 ^ 20 → length (decimal n) ≤ suc k
digits-few zero n h g = let l : n < 10 = h in rw (decimal-low n l) (omega arith)
digits-few (suc k) n h g =
    ⊎_elim
    (λ (l : n < 10). rw (decimal-low n l) (omega arith))
    (λ (l : 10 ≤ n). rw (decimal-high n l g) (simp length-append (omega (arith, digits-few k (n / 10) (tenth k n h) (omega arith)))))
    (lt_or_ge n 10)

text-short : (w : ℤ) → fits_word w ≡ true → length (word_text w) < 12
text-short (pos n) e = let k = fits-pos n e in rw (text-pos n) (omega (arith, digits-few 9 n (omega arith) (omega arith)))
text-short (negsuc n) e = let k = fits_neg n e in rw (text-neg n) (omega (arith, digits-few 9 (suc n) (omega arith) (omega arith)))

pub words-short : (p : List ℤ) → every fits_word p ≡ true → ShortWords 12 p
words-short [] e i h = absurd (omega arith)
words-short (w ∷ p) e zero h = text-short w (and_left (fits_word w) (every fits_word p) e)
words-short (w ∷ p) e (suc i) h = words-short p (and_right (fits_word w) (every fits_word p) e) i (omega arith)

-- ---- what `gateplan` prints

-- at most 49,152 bytes: 12 for each of 4,096 words
pub plan_report_fits : (table : List ℕ) → length (plan_report_of table) ≤ 49152
unfolding plan_report_of
plan_report_fits table = go (passed_or_failed (eqb (table_verdict 4096 table).number 0))
  where
    go : (eqb (table_verdict 4096 table).number 0 ≡ true) ⊎ (eqb (table_verdict 4096 table).number 0 ≡ false)
        → length (unless_refused (table_verdict 4096 table) (plan_text (plan_of table))) ≤ 49152
    go (inl e) =
        let p = plan_of table in
        let ok = plan-passes 4096 table (number-accepted 4096 table (eqb-true (table_verdict 4096 table).number 0 e)) in
        rw e (omega (arith, plan-few p ok, plan-length 12 p ok (words-short p (words-fit p ok))))
    go (inr e) = rw e (omega (arith, refused-length (table_verdict 4096 table).number (table_verdict 4096 table).place))
