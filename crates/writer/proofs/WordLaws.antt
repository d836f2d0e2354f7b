-- Laws of specs/Words, and of words that are written.
use mathlib.Core.Path.{◌≡◌, refl, sym, ap, ◌∙◌}
use mathlib.Core.Bool.{Bool, true, false, cond}
use mathlib.Core.List.{List, [], ◌∷◌, ◌++◌}
use Prim.Native.Nat.{ℕ, ◌+◌, ◌-◌, ◌*◌, ◌≤◌, ◌<◌, min}
use native.Mathlib.Numerals.{add-one}
use native.Mathlib.Omega.{arith}
use lib.IntN.{ℤ, pos}
use lib.ListN.{length, set, take, drop}
use Rattle.text.specs.Bounded.{tab}
use Rattle.text.specs.Lines.{fields}
use Rattle.text.specs.Output.{over}
use Rattle.text.proofs.OutputLaws.{over-length, over-more-at, over-over}
use Rattle.text.proofs.BoundedLaws.{length-tab}
use Rattle.gates.specs.Kinds.{field_at, line_kind, is_quad}
use Rattle.gates.specs.Quads.{divider_count}
use Rattle.gates.specs.Inner.Regions.{body_length}
use Rattle.gates.proofs.QuadLaws.{count_small}
use Rattle.gatelines.proofs.LineLaws.{fields-length}
use Rattle.writer.specs.Inner.Words.{number_word, header, step_by}

-- ---- numbers

-- a number that was held at the bound before it was doubled
pub twice-held : (m r b : ℕ) → m ≡ 2 * min r 65535 + b → number_word m ≡ number_word (2 * r + b)
unfolding number_word
twice-held m r b h = let e : min m 65535 ≡ min (2 * r + b) 65535 = omega arith in ap pos e

-- a body has at most 9 words more than its line has bytes
pub body-length_le : (s : List ℕ) → body_length (fields s) ≤ length s + 9
unfolding body_length
body-length_le s = go (is_quad (line_kind (fields s)))
  where
    go : (b : Bool) → cond b (3 * divider_count (fields s)) (length (fields s) - 3) ≤ length s + 9
    go true = omega (arith, count_small (field_at (fields s) 3))
    go false = omega (arith, fields-length s)

-- ---- words written over the beginning of a list

pub four-words : (d : List ℤ) (a b c e : ℤ) → set (set (set (set d 0 a) 1 b) 2 c) 3 e ≡ over (a ∷ b ∷ c ∷ e ∷ []) d
unfolding over
four-words [] a b c e = refl
four-words (u ∷ []) a b c e = refl
four-words (u ∷ v ∷ []) a b c e = refl
four-words (u ∷ v ∷ w ∷ []) a b c e = refl
four-words (u ∷ v ∷ w ∷ x ∷ d) a b c e = refl

-- where there is no room behind p
over-short : (p q d : List ℤ) → length d ≤ length p → over p d ≡ over (p ++ q) d
unfolding over
over-short [] [] d h = refl
over-short [] (x ∷ q) [] h = refl
over-short [] (x ∷ q) (y ∷ d) h = absurd (omega arith)
over-short (x ∷ p) q [] h = refl
over-short (x ∷ p) q (y ∷ d) h = ap (λ (l : List ℤ). x ∷ l) (over-short p q d (omega arith))

-- where p was written before
over-again : (p q d : List ℤ) → over (p ++ q) (over p d) ≡ over (p ++ q) d
unfolding over
over-again [] q d = refl
over-again (x ∷ p) q [] = refl
over-again (x ∷ p) q (y ∷ d) = ap (λ (l : List ℤ). x ∷ l) (over-again p q d)

-- ---- a header, and a body behind it

module _ (k r p m : ℕ) (body d x : List ℤ) (e : x ≡ over (header k r p m) d) where
  length-kept : length x ≡ length d
  length-kept = ap length e ∙ over-length (header k r p m) d

  pub step_cut : length x < 4 → x ≡ over (header k r p m ++ body) d
  unfolding header
  step_cut h = e ∙ over-short (header k r p m) body d (omega (arith, length-kept))

  -- the step is written over its header
  pub step-again : over (header k r p m ++ body) x ≡ over (header k r p m ++ body) d
  step-again = rw e (over-again (header k r p m) body d)

  -- the rest behind the header was lent
  pub step-joined : (y : List ℤ) → 4 ≤ length x → y ≡ over body (take (length x - 4) (drop 4 x))
      → take 4 x ++ (y ++ drop (length x - 4) (drop 4 x)) ≡ over (header k r p m ++ body) d
  unfolding header
  step-joined y h f = over-over (header k r p m) d x body y 4 refl (omega (arith, length-kept)) e f

pub step-length : (fs : List (List ℕ)) (r p : ℕ) (word : ℕ → ℤ) → length (step_by fs r p word) ≡ 4 + body_length fs
unfolding header
step-length fs r p word = omega (arith, length-tab word (body_length fs))

-- no word of the body yet
pub step_begun : (k r p m : ℕ) (d x : List ℤ) → x ≡ over (header k r p m) d → x ≡ over (header k r p m ++ []) x
unfolding header
step_begun k r p m d x e = e ∙ sym (step-again k r p m [] d x e)

-- one word more of the body
pub step-more : (k r p m : ℕ) (f : ℕ → ℤ) (d : List ℤ) (j : ℕ)
    → set (over (header k r p m ++ tab f j) d) (4 + j) (f j) ≡ over (header k r p m ++ tab f (j + 1)) d
unfolding header
step-more k r p m f d j =
    over-more-at (header k r p m ++ tab f j) d (4 + j) (f j) (omega (arith, length-tab f j)) ∙ rw add-one
