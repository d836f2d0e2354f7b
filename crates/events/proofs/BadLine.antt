-- The lowest bad line: every line below it is good, it is not itself or lacks its LF, and where there is none every line is good.
use mathlib.Core.Path.{◌≡◌, refl, sym, ◌∙◌}
use mathlib.Core.Bool.{Bool, true, false, cond}
use mathlib.Core.Logic.{◌⊎◌, inl, inr, ⊎_elim}
use mathlib.Core.List.{List, [], ◌∷◌}
use Prim.Native.Nat.{ℕ, suc, ◌+◌, ◌-◌, ◌≤◌, ◌<◌}
use native.Mathlib.Omega.{arith}
use lib.ListN.{length, get_or}
use borrow.Author.Tests.{lt-ltb, le-ltb, not-true, not-false}
use Rattle.text.specs.Bytes.{before, every}
use Rattle.text.specs.Lines.{lines, ends_in_lf}
use Rattle.text.proofs.TestLaws.{lt_or_ge, passed_or_failed}
use Rattle.text.proofs.BytesLaws.{before-found, before-first}
use Rattle.events.specs.Listing.{Line, opening, read_lines, is_good, good_lines, bad_line}
use Rattle.events.proofs.ListingLaws.{is_bad, read_length}

module _ (several headed : Bool) (n : ℕ) (s : List ℕ) where
  abbrev read : List Line
  read = read_lines several headed (lines s)

  abbrev bad : ℕ
  bad = bad_line several headed n s

  read_all : length read ≡ length (lines s)
  read_all = read_length several headed (lines s)

  bad_early : good_lines n read < length (lines s) → bad ≡ good_lines n read + 1
  unfolding bad_line
  bad_early h = rw (lt-ltb (good_lines n read) (length (lines s)) h)

  bad-late : length (lines s) ≤ good_lines n read → bad ≡ cond (ends_in_lf s) 0 (length (lines s))
  unfolding bad_line
  bad-late h = rw (le-ltb (good_lines n read) (length (lines s)) h)

  good-at : (k : ℕ) → k < good_lines n read → is_good n (get_or read k opening) ≡ true
  unfolding good_lines
  good-at k h = not-false (is_good n (get_or read k opening)) (before-first (is_bad n) opening read k h)

  not_good : good_lines n read < length (lines s) → is_good n (get_or read (good_lines n read) opening) ≡ false
  unfolding good_lines
  not_good h = not-true (is_good n (get_or read (good_lines n read) opening)) (before-found (is_bad n) opening read (omega (arith, read_all)))

  all-good : length (lines s) ≤ good_lines n read → every (is_good n) read ≡ true
  unfolding good_lines
  all-good h = go read (omega (arith, read_all))
    where
      go : (ls : List Line) → length ls ≤ before (is_bad n) ls → every (is_good n) ls ≡ true
      go [] l = refl
      go (x ∷ ls) l = both (passed_or_failed (is_good n x)) (go ls)
        where
          both : (is_good n x ≡ true) ⊎ (is_good n x ≡ false) → (length ls ≤ before (is_bad n) ls → every (is_good n) ls ≡ true)
              → every (is_good n) (x ∷ ls) ≡ true
          both (inl e) r = let k : suc (length ls) ≤ suc (before (is_bad n) ls) = rw e at l in rw e (r (omega arith))
          both (inr e) r = absurd (let k : suc (length ls) ≤ 0 = rw e at l in omega arith)

  -- every line below it is good
  pub below-bad : (k : ℕ) → k + 1 < bad → is_good n (get_or read k opening) ≡ true
  below-bad k h =
      ⊎_elim
      (λ (l : good_lines n read < length (lines s)). good-at k (omega (arith, bad_early l)))
      (λ (l : length (lines s) ≤ good_lines n read). good-at k (late (ends_in_lf s) l (rw (bad-late l) at h)))
      (lt_or_ge (good_lines n read) (length (lines s)))
    where
      late : (b : Bool) → length (lines s) ≤ good_lines n read → k + 1 < cond b 0 (length (lines s)) → k < good_lines n read
      late true l q = omega arith
      late false l q = omega arith

  -- it is not good, or it is the last and without LF
  pub bad-is : 0 < bad → (is_good n (get_or read (bad - 1) opening) ≡ false) ⊎ ((bad ≡ length (lines s)) × (ends_in_lf s ≡ false))
  bad-is h =
      ⊎_elim
      (λ (l : good_lines n read < length (lines s)). let k : bad - 1 ≡ good_lines n read = omega (arith, bad_early l) in inl (rw k (not_good l)))
      (λ (l : length (lines s) ≤ good_lines n read). inr (late (passed_or_failed (ends_in_lf s)) l))
      (lt_or_ge (good_lines n read) (length (lines s)))
    where
      late : (ends_in_lf s ≡ true) ⊎ (ends_in_lf s ≡ false) → length (lines s) ≤ good_lines n read → (bad ≡ length (lines s)) × (ends_in_lf s ≡ false)
      late (inl e) l = absurd (let z : bad ≡ 0 = bad-late l ∙ rw e in omega arith)
      late (inr e) l = (bad-late l ∙ rw e, e)

  -- where there is none, every line is good, and the last ends in LF
  pub none-bad : bad ≡ 0 → (every (is_good n) read ≡ true) × ((lines s ≡ []) ⊎ (ends_in_lf s ≡ true))
  none-bad e =
      ⊎_elim
      (λ (l : good_lines n read < length (lines s)). absurd (omega (arith, bad_early l)))
      (λ (l : length (lines s) ≤ good_lines n read). (all-good l, late (passed_or_failed (ends_in_lf s)) l))
      (lt_or_ge (good_lines n read) (length (lines s)))
    where
      no_lines : (ls : List (List ℕ)) → length ls ≡ 0 → ls ≡ []
      no_lines [] k = refl
      no_lines (x ∷ ls) k = absurd (omega arith)

      late : (ends_in_lf s ≡ true) ⊎ (ends_in_lf s ≡ false) → length (lines s) ≤ good_lines n read → (lines s ≡ []) ⊎ (ends_in_lf s ≡ true)
      late (inl f) l = inr f
      late (inr f) l = inl (no_lines (lines s) (sym (bad-late l ∙ rw f) ∙ e))
