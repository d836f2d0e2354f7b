-- Column lines: names compared one by one, and what one line earns.
use mathlib.Core.Path.{◌≡◌, refl, sym, ap₂}
use mathlib.Core.Bool.{Bool, true, false, cond, ◌&&◌}
use mathlib.Core.Logic.{◌⊎◌, inl, inr}
use mathlib.Core.List.{List, [], ◌∷◌}
use Prim.Native.Nat.{ℕ, zero, suc, ◌≤◌, ◌<◌}
use native.Mathlib.Omega.{arith}
use lib.ListN.{length, get_or}
use Rattle.plans.specs.Refusals.{passed, refused}
use Rattle.text.specs.Bytes.{same}
use Rattle.text.specs.Lines.{fields}
use Rattle.text.proofs.BytesLaws.{same_refl, same_eq}
use Rattle.text.proofs.TestLaws.{true≢false, and_left, and_right, passed_or_failed}
use Rattle.gates.specs.Gate.{Name}
use Rattle.tables.specs.Head.{dimensions}
use Rattle.tables.specs.Columns.{same_names, first_differing, is_right, columns_verdict}

-- ---- the same names

pub same-names-refl : (a : List Name) → same_names a a ≡ true
same-names-refl [] = refl
same-names-refl (x ∷ a) = rw (same_refl x) (same-names-refl a)

pub same-names_eq : (a b : List Name) → same_names a b ≡ true → a ≡ b
same-names_eq [] [] e = refl
same-names_eq [] (y ∷ b) e = absurd (true≢false (sym e))
same-names_eq (x ∷ a) [] e = absurd (true≢false (sym e))
same-names_eq (x ∷ a) (y ∷ b) e = ap₂ ◌∷◌ (same_eq x y (and_left (same x y) (same_names a b) e)) (same-names_eq a b (and_right (same x y) (same_names a b) e))

-- ---- the first name that differs

-- both lists have it, or end there
pub differing_inside : (a b : List Name) → (first_differing a b ≤ length a) × (first_differing a b ≤ length b)
differing_inside [] b = (omega arith, omega arith)
differing_inside (x ∷ a) [] = (omega arith, omega arith)
differing_inside (x ∷ a) (y ∷ b) = go (same x y) (differing_inside a b)
  where
    go : (s : Bool) → (first_differing a b ≤ length a) × (first_differing a b ≤ length b)
        → (cond s (suc (first_differing a b)) 0 ≤ suc (length a)) × (cond s (suc (first_differing a b)) 0 ≤ suc (length b))
    go true h = let l = h.0 in let r = h.1 in (omega arith, omega arith)
    go false h = (omega arith, omega arith)

-- no name before differs
pub differing_before : (a b : List Name) (i : ℕ) → i < first_differing a b → get_or a i [] ≡ get_or b i []
differing_before [] b i h = absurd (omega arith)
differing_before (x ∷ a) [] i h = absurd (omega arith)
differing_before (x ∷ a) (y ∷ b) zero h = go (passed_or_failed (same x y))
  where
    go : (same x y ≡ true) ⊎ (same x y ≡ false) → x ≡ y
    go (inl e) = same_eq x y e
    go (inr e) = absurd (let l : 0 < 0 = rw e at h in omega arith)
differing_before (x ∷ a) (y ∷ b) (suc i) h = go (passed_or_failed (same x y)) (differing_before a b i)
  where
    go : (same x y ≡ true) ⊎ (same x y ≡ false) → (i < first_differing a b → get_or a i [] ≡ get_or b i []) → get_or a i [] ≡ get_or b i []
    go (inl e) r = let l : suc i < suc (first_differing a b) = rw e at h in r (omega arith)
    go (inr e) r = absurd (let l : suc i < 0 = rw e at h in omega arith)

-- where both lists have a name there, the two differ
pub differing_at : (a b : List Name) → first_differing a b < length a → first_differing a b < length b
    → same (get_or a (first_differing a b) []) (get_or b (first_differing a b) []) ≡ false
differing_at [] b h k = absurd (omega arith)
differing_at (x ∷ a) [] h k = absurd (omega arith)
differing_at (x ∷ a) (y ∷ b) h k = go (passed_or_failed (same x y)) (differing_at a b)
  where
    go : (same x y ≡ true) ⊎ (same x y ≡ false)
        →
        (first_differing a b < length a → first_differing a b < length b → same (get_or a (first_differing a b) []) (get_or b (first_differing a b) []) ≡ false)
        → same (get_or (x ∷ a) (first_differing (x ∷ a) (y ∷ b)) []) (get_or (y ∷ b) (first_differing (x ∷ a) (y ∷ b)) []) ≡ false
    go (inl e) r =
        let l : suc (first_differing a b) < suc (length a) = rw e at h in
        let m : suc (first_differing a b) < suc (length b) = rw e at k in
        rw e (r (omega arith) (omega arith))
    go (inr e) r = rw (e, e)

-- the names are the same exactly where both lists end there
pub differing_none : (a : List Name) → first_differing a a ≡ length a
differing_none [] = refl
differing_none (x ∷ a) = rw (same_refl x, differing_none a)

pub both_end : (a b : List Name) → first_differing a b ≡ length a → first_differing a b ≡ length b → same_names a b ≡ true
both_end [] [] h k = refl
both_end [] (y ∷ b) h k = absurd (omega arith)
both_end (x ∷ a) [] h k = absurd (omega arith)
both_end (x ∷ a) (y ∷ b) h k = go (passed_or_failed (same x y)) (both_end a b)
  where
    go : (same x y ≡ true) ⊎ (same x y ≡ false) → (first_differing a b ≡ length a → first_differing a b ≡ length b → same_names a b ≡ true)
        → (same x y && same_names a b) ≡ true
    go (inl e) r =
        let l : suc (first_differing a b) ≡ suc (length a) = rw e at h in
        let m : suc (first_differing a b) ≡ suc (length b) = rw e at k in
        rw e (r (omega arith) (omega arith))
    go (inr e) r = let l : 0 ≡ suc (length a) = rw e at h in absurd (omega arith)

-- ---- what one line earns

module _ (text line : List ℕ) where
  pub right-passes : is_right text line ≡ true → columns_verdict text (line ∷ []) ≡ passed
  right-passes e = rw e

  pub wrong-refused : is_right text line ≡ false → columns_verdict text (line ∷ []) ≡ refused 31 (first_differing (dimensions text) (fields line))
  wrong-refused e = rw e
