-- Line 1 and its names by their fields.
use mathlib.Core.Path.{◌≡◌, refl, sym, ap, ◌∙◌}
use mathlib.Core.Logic.{◌⊎◌, inl, inr}
use mathlib.Core.Bool.{Bool, true, false, ◌&&◌}
use mathlib.Core.List.{List, []}
use Prim.Native.Nat.{ℕ, zero, suc, ◌+◌, ◌-◌, ◌<◌, ◌≤◌}
use native.Mathlib.Omega.{arith}
use native.Mathlib.Numerals.{add-one}
use native.Mathlib.Decide.{dec_lt}
use lib.Dec.{eqb, leb}
use borrow.Author.Tests.{eqb-true, eqb-false}
use Rattle.std.specs.List.{range_with_len, list_all}
use lib.ListN.{length, get_or, drop, length-drop, drop_of_length-le}
use lib.Seq.{drop-cons, get_or-drop}
use Rattle.plans.specs.Kinds.{spans}
use Rattle.text.specs.Bytes.{every}
use Rattle.text.specs.Lines.{lines, fields}
use Rattle.text.specs.Inner.Places.{line_from, find_field}
use Rattle.text.specs.Names.{is_name}
use Rattle.text.proofs.BytesLaws.{same_refl}
use Rattle.text.proofs.LinesLaws.{lines_cut, lines_end, line-none, fields-some, find_field_from, find_field_is, find_field_first}
use Rattle.text.proofs.TestLaws.{true≢false, leb_iff, passed_or_failed, and_left, and_right}
use Rattle.tables.specs.Table.{different}
use Rattle.tables.proofs.ListLaws.{unless}
use Rattle.tables.proofs.NameLaws.{distinct-at, at-distinct, different-distinct, distinct-different}

pub first-line : (s : List ℕ) → line_from s 0 ≡ get_or (lines s) 0 []
first-line s = go (dec_lt 0 (length s))
  where
    go : Dec (0 < length s) → line_from s 0 ≡ get_or (lines s) 0 []
    go (yes h) = sym (ap (λ (ls : List (List ℕ)). get_or ls 0 []) (lines_cut s 0 h))
    go (no h) = line-none s 0 (omega arith) ∙ sym (ap (λ (ls : List (List ℕ)). get_or ls 0 []) (lines_end s 0 (omega arith)))

module _ (fs : List (List ℕ)) (k : ℕ) where
  -- ---- different names

  at : (j : ℕ) → get_or (drop 1 fs) j [] ≡ get_or fs (1 + j) []
  at j = get_or-drop 1 fs j []

  long : length (drop 1 fs) ≡ length fs - 1
  long = length-drop 1 fs

  pub different-all : length fs ≤ k → ((j : ℕ) → j < k → 1 ≤ j → find_field fs 1 (get_or fs j []) ≡ j) → different (drop 1 fs) ≡ true
  different-all n f = distinct-different (drop 1 fs) (at-distinct (drop 1 fs) (λ i j h l q.
      let x = get_or fs (1 + j) [] in
      let e : get_or fs (1 + i) [] ≡ x = sym (at i) ∙ q ∙ at j in
      let p : find_field fs 1 x ≡ 1 + j = f (1 + j) (omega (arith, long)) (omega arith) in
      true≢false (sym (rw e (same_refl x)) ∙ find_field_first fs 1 x (1 + i) (omega arith) (omega (arith, p)))))

  pub different-not : 1 ≤ k → k < length fs → (find_field fs 1 (get_or fs k []) ≡ k → ⊥) → different (drop 1 fs) ≡ false
  different-not l h ne = unless (different (drop 1 fs)) (λ e.
      let x = get_or fs k [] in
      let f = find_field fs 1 x in
      let u : 1 ≤ f = find_field_from fs 1 x in
      let up : k < f → ⊥ = λ o. true≢false (sym (same_refl x) ∙ find_field_first fs 1 x k l o) in
      let low : f < k = below f up ne in
      let a : 1 + (f - 1) ≡ f = omega arith in
      let b : 1 + (k - 1) ≡ k = omega arith in
      distinct-at (drop 1 fs) (different-distinct (drop 1 fs) e) (f - 1) (k - 1) (omega arith) (omega (arith, long))
      (at (f - 1) ∙ ap (λ (i : ℕ). get_or fs i []) a ∙ find_field_is fs 1 x (omega arith) ∙ sym (at (k - 1) ∙ ap (λ (i : ℕ). get_or fs i []) b)))
    where
      below : (f : ℕ) → (k < f → ⊥) → (f ≡ k → ⊥) → f < k
      below f p q = go (dec_lt f k)
        where
          go : Dec (f < k) → f < k
          go (yes o) = o
          go (no o) = absurd (p (omega (arith, other)))
            where
              other : k ≡ f → ⊥
              other z = q (sym z)

-- ---- the fields from 1 on, one by one

module _ (test : ℕ → Bool) where
  pub every_in : (i m : ℕ) → list_all test (range_with_len i m) ≡ true → (k : ℕ) → i ≤ k → k < i + m → test k ≡ true
  every_in i zero e k h l = absurd (omega arith)
  every_in i (suc m) e k h l =
      go (dec_lt i k) (λ o. every_in (i + 1) m (and_right (test i) (list_all test (range_with_len (i + 1) m)) e) k (omega arith) (omega arith))
    where
      go : Dec (i < k) → (i < k → test k ≡ true) → test k ≡ true
      go (yes o) rec = rec o
      go (no o) rec = let z : k ≡ i = omega arith in rw z (and_left (test i) (list_all test (range_with_len (i + 1) m)) e)

  pub one_in : (i m : ℕ) → list_all test (range_with_len i m) ≡ false → (k : ℕ) × (i ≤ k) × (k < i + m) × (test k ≡ false)
  one_in i zero e = absurd (true≢false e)
  one_in i (suc m) e = go (test i) refl e (one_in (i + 1) m)
    where
      rest : Bool
      rest = list_all test (range_with_len (i + 1) m)

      go : (b : Bool) → test i ≡ b → (b && rest) ≡ false → (rest ≡ false → (k : ℕ) × (i + 1 ≤ k) × (k < i + 1 + m) × (test k ≡ false))
          → (k : ℕ) × (i ≤ k) × (k < i + suc m) × (test k ≡ false)
      go true t f rec = let w = rec f in (w.0, omega (arith, w.1), omega (arith, w.2), w.3)
      go false t f rec = (i, omega arith, omega arith, t)

names_from : (fs : List (List ℕ)) (i m : ℕ) → i + m ≡ length fs → list_all (λ k. is_name (get_or fs k [])) (range_with_len i m) ≡ every is_name (drop i fs)
names_from fs i zero e = rw (drop_of_length-le fs {i = i} (omega arith))
names_from fs i (suc m) e =
    rw (drop-cons fs i [] (omega arith)) (ap (λ (b : Bool). is_name (get_or fs i []) && b) (names_from fs (i + 1) m (omega arith) ∙ rw add-one))

module _ (head : List ℕ) {n : ℕ} (e : n ≡ length (fields head)) where
  some : 1 + (n - 1) ≡ length (fields head)
  unfolding fields
  some = omega (arith, e, fields-some 9 head)

  pub names_in : list_all (λ k. is_name (get_or (fields head) k [])) (range_with_len 1 (n - 1)) ≡ every is_name (drop 1 (fields head))
  names_in = names_from (fields head) 1 (n - 1) some

  pub different_in : list_all (λ k. eqb (find_field (fields head) 1 (get_or (fields head) k [])) k) (range_with_len 1 (n - 1))
      ≡ different (drop 1 (fields head))
  different_in = go (passed_or_failed (list_all test (range_with_len 1 (n - 1))))
    where
      fs : List (List ℕ)
      fs = fields head

      test : ℕ → Bool
      test k = eqb (find_field fs 1 (get_or fs k [])) k

      go : (list_all test (range_with_len 1 (n - 1)) ≡ true) ⊎ (list_all test (range_with_len 1 (n - 1)) ≡ false)
          → list_all test (range_with_len 1 (n - 1)) ≡ different (drop 1 fs)
      go (inl t) = t ∙ sym (different-all fs n (omega arith) (λ j h l.
          eqb-true (find_field fs 1 (get_or fs j [])) j (every_in test 1 (n - 1) t j l (omega (arith, some)))))
      go (inr f) =
          let w = one_in test 1 (n - 1) f in
          f ∙ sym (different-not fs w.0 w.1 (omega (arith, w.2, some)) (eqb-false (find_field fs 1 (get_or fs w.0 [])) w.0 w.3))

pub sized : (fs : List (List ℕ)) {n : ℕ} → n ≡ length fs → (leb 2 n && leb n 9) ≡ spans 1 8 (length (drop 1 fs))
unfolding spans
sized fs {n} e =
    let d : length (drop 1 fs) ≡ n - 1 = length-drop 1 fs ∙ rw e in
    let a : leb 2 n ≡ leb 1 (length (drop 1 fs)) = leb_iff 2 n 1 (length (drop 1 fs)) (λ h. omega arith) (λ h. omega arith) in
    let b : leb n 9 ≡ leb (length (drop 1 fs)) 8 = leb_iff n 9 (length (drop 1 fs)) 8 (λ h. omega arith) (λ h. omega arith) in
    rw (a, b)
