-- Laws of the search for a line: the lines before a place are passed, and none of them is the one that is sought.
use mathlib.Core.Path.{◌≡◌, refl, ◌∙◌, ap}
use mathlib.Core.Bool.{Bool, true, false}
use mathlib.Core.List.{List}
use Prim.Native.Nat.{ℕ, suc, ◌+◌, ◌≤◌, ◌<◌}
use native.Mathlib.Omega.{arith}
use lib.ListN.{length, get_or, drop}
use Rattle.text.specs.Bytes.{before}
use Rattle.text.specs.Lines.{lines}
use Rattle.text.specs.Inner.Places.{starts_from, line_starts, find_from, line_from}
use Rattle.text.proofs.LinesLaws.{find_from_lem, find_inside, lines_cut, lines_end, starts-cut}

-- the place of the first line of which f holds, of those from place a on; or the end
abbrev pub place_from : (List ℕ → Bool) → List ℕ → ℕ → ℕ
place_from f s a = get_or (starts_from a (lines (drop a s))) (before f (lines (drop a s))) (length s)

abbrev pub place_of : (List ℕ → Bool) → List ℕ → ℕ
place_of f s = get_or (line_starts s) (before f (lines s)) (length s)

-- k lines of s stand before place a, and f holds of none of them
pub record Passed (f : List ℕ → Bool) (s : List ℕ) (a k : ℕ) : Type 0 where
  pub below : k ≤ a
  pub inside : a ≤ length s + 1
  pub first : before f (lines s) ≡ k + before f (lines (drop a s))
  pub count : length (lines s) ≡ k + length (lines (drop a s))
  pub place : place_of f s ≡ place_from f s a

module _ (f : List ℕ → Bool) (s : List ℕ) where
  pub passed_none : Passed f s 0 0
  unfolding line_starts
  passed_none = record { below = omega arith; inside = omega arith; first = omega arith; count = omega arith; place = refl }

  module _ (a k : ℕ) (p : Passed f s a k) where
    pub passed-more : (e : ℕ) → e ≡ find_from s a 10 → a < length s → f (line_from s a) ≡ false → Passed f s (e + 1) (k + 1)
    passed-more e at l h =
        let i : find_from s a 10 ≤ length s = find_inside s a 10 (omega arith) in
        record {
          below = omega (arith, p.below, find_from_lem s a 10);
          inside = omega arith;
          first = p.first ∙ rw (at, lines_cut s a l, h) (omega arith);
          count = p.count ∙ rw (at, lines_cut s a l) (omega arith);
          place = p.place ∙ rw (at, starts-cut s a l, lines_cut s a l, h);
        }

    module _ (l : a < length s) (h : f (line_from s a) ≡ true) where
      pub found_number : before f (lines s) ≡ k
      found_number = p.first ∙ rw (lines_cut s a l, h) (omega arith)

      pub found_below : k < length (lines s)
      found_below =
          let e : length (lines (drop a s)) ≡ suc (length (lines (drop (find_from s a 10 + 1) s))) = ap length (lines_cut s a l) in
          omega (arith, p.count)

      pub found-place : place_of f s ≡ a
      found-place = p.place ∙ rw (starts-cut s a l, lines_cut s a l, h)

    module _ (l : length s ≤ a) where
      pub missing_number : before f (lines s) ≡ k
      missing_number = p.first ∙ rw (lines_end s a l) (omega arith)

      pub missing_count : length (lines s) ≡ k
      missing_count = p.count ∙ rw (lines_end s a l) (omega arith)

      pub missing_place : place_of f s ≡ length s
      missing_place = p.place ∙ rw (lines_end s a l)
