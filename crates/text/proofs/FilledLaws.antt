-- Laws of a list that is filled line by line with what a function g gives for each line of a text.
use mathlib.Core.Path.{◌≡◌, refl, sym, ◌∙◌, ap}
use mathlib.Core.Bool.{Bool, true, false, cond}
use mathlib.Core.List.{List, [], ◌∷◌, ◌++◌, flat_map}
use Prim.Native.Nat.{ℕ, suc, ◌+◌, ◌-◌, ◌≤◌, ◌<◌}
use native.Mathlib.Omega.{arith}
use lib.Dec.{eqb}
use lib.ListN.{length, take, drop, length-append, length-drop}
use lib.Seq.{take_all, length-take-le}
use Rattle.text.specs.Inner.Counts.{occurrences}
use Rattle.text.specs.Lines.{fields, lines}
use Rattle.text.specs.Inner.Places.{find_from, line_from}
use Rattle.text.specs.Output.{over}
use Rattle.text.specs.Inner.Writing.{over_from}
use Rattle.text.proofs.LinesLaws.{find_inside, lines_cut, lines_end, line-length}
use Rattle.text.proofs.WritingLaws.{over-from, take_more, drop_more}
use Rattle.text.proofs.TextTheorems.{fields-count}

-- a line has at most one field more than bytes
pub fields-few : (l : List ℕ) → length (fields l) ≤ length l + 1
fields-few l = omega (arith, fields-count l, tabs l)
  where
    tabs : (s : List ℕ) → occurrences 9 s ≤ length s
    tabs [] = omega arith
    tabs (x ∷ s) = go (eqb x 9) (tabs s)
      where
        go : (b : Bool) → occurrences 9 s ≤ length s → cond b (suc (occurrences 9 s)) (occurrences 9 s) ≤ suc (length s)
        go true h = omega arith
        go false h = omega arith

module _ {A : Type 0} (g : List ℕ → List A) where
  -- what g gives for the lines from place a on
  abbrev pub given_from : List ℕ → ℕ → List A
  given_from s a = flat_map g (lines (drop a s))

  given-cut : (s : List ℕ) (a : ℕ) → a < length s → given_from s a ≡ g (line_from s a) ++ given_from s (find_from s a 10 + 1)
  unfolding flat_map
  given-cut s a l = rw (lines_cut s a l)

  given_end : (s : List ℕ) (a : ℕ) → length s ≤ a → given_from s a ≡ []
  unfolding flat_map
  given_end s a l = rw (lines_end s a l)

  -- the m elements of vs, which g gives for the lines before place a, are written over d
  pub record Filled (vs : List A) (s : List ℕ) (d : List A) (a m : ℕ) (x : List A) : Type 0 where
    pub few : m ≤ a
    pub inside : a ≤ length s + 1
    pub below : m ≤ length vs
    pub rest : drop m vs ≡ given_from s a
    pub written : x ≡ over (take m vs) d

  module _ (vs : List A) (s : List ℕ) (d : List A) where
    pub filled_none : vs ≡ flat_map g (lines s) → Filled vs s d 0 0 d
    unfolding over
    filled_none e = record { few = omega arith; inside = omega arith; below = omega arith; rest = e; written = refl }

    module _ (a m : ℕ) {x : List A} (p : Filled vs s d a m x) where
      module _ (l : a < length s) (short : length (g (line_from s a)) ≤ length (line_from s a) + 1) {c : ℕ} (f : c ≡ length (g (line_from s a))) where
        pub few_more : m + c ≤ find_from s a 10 + 1
        few_more = omega (arith, p.few, short, line-length s a l)

        pub filled_more : (e : ℕ) → e ≡ find_from s a 10 → (y : List A) → y ≡ over_from m (g (line_from s a)) x → Filled vs s d (e + 1) (m + c) y
        filled_more e at y w =
            let v = g (line_from s a) in
            let q = p.rest ∙ given-cut s a l in
            let k : length vs - m ≡ length v + length (given_from s (find_from s a 10 + 1)) =
            sym (length-drop m vs) ∙ ap length q ∙ length-append v (given_from s (find_from s a 10 + 1)) in
            record {
              few = omega (arith, few_more);
              inside = omega (arith, find_inside s a 10 (omega arith));
              below = omega (arith, p.below);
              rest = rw at (drop_more vs v (given_from s (find_from s a 10 + 1)) m c f q);
              written =
                  over-from (take m vs) d x y v m (length-take-le m vs p.below) p.written w
                  ∙ ap (λ (z : List A). over z d) (sym (take_more vs v (given_from s (find_from s a 10 + 1)) m c f q));
            }

      module _ (l : length s ≤ a) where
        pub filled_all : m ≡ length vs
        filled_all = let k : length vs - m ≡ 0 = sym (length-drop m vs) ∙ ap length (p.rest ∙ given_end s a l) in omega (arith, p.below)

        pub all_written : x ≡ over vs d
        all_written = p.written ∙ rw (take_all m vs (omega (arith, filled_all)))
