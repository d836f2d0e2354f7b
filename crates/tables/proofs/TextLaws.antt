-- The text of some lines: its length, and its last byte; and the fields of the line of some fields.
use mathlib.Core.Path.{◌≡◌, refl, ap, ◌∙◌}
use mathlib.Core.Bool.{true, not}
use mathlib.Core.List.{List, [], ◌∷◌, ◌++◌}
use Prim.Native.Nat.{ℕ, suc, ◌-◌, ◌≤◌}
use native.Mathlib.Omega.{arith}
use lib.Dec.{eqb}
use lib.ListN.{length, length-append}
use borrow.Author.Tests.{eq-eqb, not-true}
use Rattle.text.specs.Bytes.{every}
use Rattle.text.specs.Inner.Counts.{without}
use Rattle.text.specs.Lines.{parts, fields, unfields, unlines, ends_in_lf}
use Rattle.text.proofs.TestLaws.{and_left, and_right}
use Rattle.tables.specs.Table.{sum_of}

pub unlines-length : (ls : List (List ℕ)) → length (unlines ls) ≡ sum_of (λ l. suc (length l)) ls
unlines-length [] = refl
unlines-length (l ∷ ls) = simp length-append (omega (arith, unlines-length ls))

-- the last byte of a longer text
ends-later : (b c : ℕ) (s : List ℕ) → ends_in_lf (b ∷ c ∷ s) ≡ ends_in_lf (c ∷ s)
unfolding ends_in_lf
ends-later b c s =
    let p : suc (suc (length s)) - 1 ≡ suc (length s) = omega arith in
    let q : suc (length s) - 1 ≡ length s = omega arith in
    rw (p, q)

ends_append : (l : List ℕ) (c : ℕ) (s : List ℕ) → ends_in_lf (l ++ (c ∷ s)) ≡ ends_in_lf (c ∷ s)
ends_append [] c s = refl
ends_append (b ∷ []) c s = ends-later b c s
ends_append (b ∷ d ∷ l) c s = ends-later b d (l ++ (c ∷ s)) ∙ ends_append (d ∷ l) c s

ends-lines : (ls : List (List ℕ)) → ends_in_lf (10 ∷ unlines ls) ≡ true
unfolding ends_in_lf
ends-lines [] = refl
ends-lines (l ∷ ls) = ends_append (10 ∷ l) 10 (unlines ls) ∙ ends-lines ls

pub unlines-ends : (l : List ℕ) (ls : List (List ℕ)) → ends_in_lf (unlines (l ∷ ls)) ≡ true
unlines-ends l ls = ends_append l 10 (unlines ls) ∙ ends-lines ls

-- ---- fields

-- a part that has no c ends at the next one, or is the last
pub part-first : (c : ℕ) (end : List (List ℕ)) (f s : List ℕ) → without c f ≡ true → parts c end (f ++ (c ∷ s)) ≡ f ∷ parts c end s
part-first c end [] s h = rw (eq-eqb c c refl)
part-first c end (x ∷ f) s h =
    let t = not-true (eqb x c) (and_left (not (eqb x c)) (without c f) h) in
    rw (t, part-first c end f s (and_right (not (eqb x c)) (without c f) h))

part-last : (c : ℕ) (f : List ℕ) → without c f ≡ true → parts c ([] ∷ []) f ≡ f ∷ []
part-last c [] h = refl
part-last c (x ∷ f) h =
    let t = not-true (eqb x c) (and_left (not (eqb x c)) (without c f) h) in
    rw (t, part-last c f (and_right (not (eqb x c)) (without c f) h))

-- fields without tabs are the fields of their line
pub fields-unfields : (fs : List (List ℕ)) → 1 ≤ length fs → every (without 9) fs ≡ true → fields (unfields fs) ≡ fs
unfolding fields
fields-unfields [] h e = absurd (omega arith)
fields-unfields (f ∷ []) h e = part-last 9 f (and_left (without 9 f) true e)
fields-unfields (f ∷ (g ∷ fs)) h e =
    part-first 9 ([] ∷ []) f (unfields (g ∷ fs)) (and_left (without 9 f) (every (without 9) (g ∷ fs)) e)
    ∙ ap (λ (l : List (List ℕ)). f ∷ l) (fields-unfields (g ∷ fs) (omega arith) (and_right (without 9 f) (every (without 9) (g ∷ fs)) e))
