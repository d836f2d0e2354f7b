-- A head's names and the fields of a column line, one by one; what stands behind a head's first tab; and what testing a column line answers.
use mathlib.Core.Path.{◌≡◌, refl, sym, ap, ◌∙◌}
use mathlib.Core.Bool.{true, false, ◌&&◌}
use mathlib.Core.Logic.{◌⊎◌, inl, inr}
use mathlib.Core.List.{List, [], ◌∷◌}
use Prim.Native.Nat.{ℕ, ◌+◌, ◌-◌, ◌≤◌, ◌<◌}
use native.Mathlib.Omega.{arith}
use lib.Dec.{eqb, ltb}
use lib.ListN.{length, get_or, take, drop, length-append, length-drop, drop_of_length-le}
use lib.Seq.{length-take-le, drop-append-add}
use borrow.Author.Tests.{ltb-true, ltb-false, eq-eqb, eqb-true}
use Rattle.plans.specs.Refusals.{passed, refused}
use Rattle.text.specs.Lines.{lines, fields, unfields}
use Rattle.text.specs.Inner.Places.{find_from, find_field}
use Rattle.text.proofs.BytesLaws.{part-rest, rest_cons, same_refl}
use Rattle.text.proofs.LinesLaws.{found_inside, field_here, fields-some, find_field_from, find_field_is, find_field_first}
use Rattle.text.proofs.TestLaws.{true≢false, and_left, and_right}
use Rattle.text.proofs.TextTheorems.{unfields-fields}
use Rattle.tables.specs.Head.{head_fields, dimensions}
use Rattle.tables.specs.Columns.{same_names, first_differing, is_right, columns_verdict}
use Rattle.tables.proofs.ListLaws.{both_ways, and_fails}
use Rattle.tables.proofs.NameLaws.{same_not}
use Rattle.tables.proofs.ColumnLaws.{same-names_eq, differing_inside, differing_none, both_end, right-passes, wrong-refused}

-- the names reach as far as fields are compared
pub names_reach : (k n m : ℕ) → (ltb k m && ltb (k + 1) n) ≡ true → k + 1 + 1 ≤ n
names_reach k n m h = let l = ltb-true (k + 1) n (and_right (ltb k m) (ltb (k + 1) n) h) in omega arith

-- fs are the fields of line 1, of which the first is no name, and gs those of a column line
module _ (fs gs : List (List ℕ)) (k : ℕ) where
  abbrev from-here : ℕ
  from-here = k + first_differing (drop (k + 1) fs) (drop k gs)

  module _ {n m : ℕ} (p : n ≡ length fs) (q : m ≡ length gs) where
    -- both have a name there; the line's is searched for in the head from there on
    module _ (h : (ltb k m && ltb (k + 1) n) ≡ true) {y : List ℕ} (v : y ≡ get_or gs k []) {f : ℕ} (e : f ≡ find_field fs (k + 1) y) where
      name-next : k + 1 < length fs
      name-next = let l = names_reach k n m h in omega arith

      field_next : k < length gs
      field_next = let l = ltb-true k m (and_left (ltb k m) (ltb (k + 1) n) h) in omega arith

      -- it is found there: the two are the same
      pub differing_later : f ≤ k + 1 → from-here ≡ k + 1 + first_differing (drop (k + 1 + 1) fs) (drop (k + 1) gs)
      differing_later l =
          let u = find_field_from fs (k + 1) y in
          let z : find_field fs (k + 1) y ≡ k + 1 = omega arith in
          let o : get_or fs (k + 1) [] ≡ y = rw z at (find_field_is fs (k + 1) y (omega (arith, name-next))) in
          rw (rest_cons fs (k + 1) [] name-next, rest_cons gs k [] field_next, o, ← v, same_refl y) (omega arith)

      -- or later: they differ
      pub differing_here : k + 1 < f → from-here ≡ k
      differing_here l =
          let o = find_field_first fs (k + 1) y (k + 1) (omega arith) (omega arith) in
          let d = same_not (get_or fs (k + 1) []) y (λ z. true≢false (sym (rw z (same_refl y)) ∙ o)) in
          rw (rest_cons fs (k + 1) [] name-next, rest_cons gs k [] field_next, ← v, d) (omega arith)

    -- one of the two ends there
    pub differing_end : (ltb k m && ltb (k + 1) n) ≡ false → from-here ≡ k
    differing_end h = go (and_fails (ltb k m) (ltb (k + 1) n) h)
      where
        no_field : (a : List (List ℕ)) → k + first_differing a [] ≡ k
        no_field [] = omega arith
        no_field (x ∷ a) = omega arith

        go : (ltb k m ≡ false) ⊎ (ltb (k + 1) n ≡ false) → from-here ≡ k
        go (inl z) = let l = ltb-false k m z in rw (drop_of_length-le gs {i = k} (omega arith)) (no_field (drop (k + 1) fs))
        go (inr z) = let l = ltb-false (k + 1) n z in rw (drop_of_length-le fs {i = k + 1} (omega arith)) (omega arith)

-- ---- what stands behind the first tab

-- e is the place of the first tab of s, or of its end
module _ (s : List ℕ) (e : ℕ) (at : e ≡ find_from s 0 9) where
  -- the first field ends there
  first_ends : length (get_or (fields s) 0 []) ≡ e
  first_ends =
      let z : e - 0 ≡ e = omega arith in
      let f : take e s ≡ get_or (fields s) 0 [] = rw z at (field_here s 0 e 0 at (omega arith) (omega arith)) in
      ap length (sym f) ∙ length-take-le e s (found_inside s 0 9 at (omega arith))

  pub nothing-behind : length s ≤ e → [] ≡ unfields (drop 1 (fields s))
  nothing-behind h = go (fields s) first_ends (unfields-fields s)
    where
      go : (fs : List (List ℕ)) → length (get_or fs 0 []) ≡ e → unfields fs ≡ s → [] ≡ unfields (drop 1 fs)
      go [] l q = refl
      go (f ∷ []) l q = refl
      go (f ∷ (g ∷ fs)) l q = absurd (omega (arith, ap length (sym q) ∙ length-append f (9 ∷ unfields (g ∷ fs))))

  pub behind-tab : e < length s → take (length s - (e + 1)) (drop (e + 1) s) ≡ unfields (drop 1 (fields s))
  behind-tab h = part-rest (e + 1) s ∙ go (fields s) first_ends (unfields-fields s)
    where
      go : (fs : List (List ℕ)) → length (get_or fs 0 []) ≡ e → unfields fs ≡ s → drop (e + 1) s ≡ unfields (drop 1 fs)
      go [] l q = absurd (omega (arith, ap length q))
      go (f ∷ []) l q = absurd (omega (arith, ap length q))
      go (f ∷ (g ∷ fs)) l q = rw (← q, ← l) (drop-append-add f (9 ∷ unfields (g ∷ fs)) 1)

-- ---- what testing a column line answers

-- k is the first field that differs, and n the number of line 1's fields
module _ (text line : List ℕ) {head : List ℕ} (at : head ≡ get_or (lines text) 0 []) {n k : ℕ} (p : n ≡ length (fields head))
    (e : k ≡ first_differing (drop 1 (fields head)) (fields line)) where
  abbrev names : List (List ℕ)
  names = drop 1 (fields head)

  names_are : dimensions text ≡ names
  unfolding dimensions head_fields
  names_are = rw at

  names-length : length names + 1 ≡ n
  unfolding fields
  names-length = omega (arith, length-drop 1 (fields head), fields-some 9 head, p)

  pub place_inside : k + 1 ≤ n
  place_inside = let l = (differing_inside names (fields line)).0 in omega (arith, names-length)

  module _ {m : ℕ} (q : m ≡ length (fields line)) where
    -- the line is right exactly where both end there
    test-is : (eqb (k + 1) n && eqb k m) ≡ is_right text line
    unfolding is_right
    test-is =
        rw names_are
        (both_ways (eqb (k + 1) n && eqb k m) (same_names names (fields line))
        (λ t.
        let u = eqb-true (k + 1) n (and_left (eqb (k + 1) n) (eqb k m) t) in
        let v = eqb-true k m (and_right (eqb (k + 1) n) (eqb k m) t) in
        both_end names (fields line) (omega (arith, names-length)) (omega arith))
        (λ t.
        let z : names ≡ fields line = same-names_eq names (fields line) t in
        let l : k ≡ length (fields line) = e ∙ rw (← z) (differing_none names) in
        let o : length names ≡ length (fields line) = ap length z in
        rw (eq-eqb (k + 1) n (omega (arith, names-length)), eq-eqb k m (omega arith))))

    pub tested-right : (eqb (k + 1) n && eqb k m) ≡ true → columns_verdict text (line ∷ []) ≡ passed
    tested-right t = right-passes text line (sym test-is ∙ t)

    pub tested-wrong : (eqb (k + 1) n && eqb k m) ≡ false → columns_verdict text (line ∷ []) ≡ refused 31 k
    tested-wrong t = wrong-refused text line (sym test-is ∙ t) ∙ rw (names_are, ← e)
