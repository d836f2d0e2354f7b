-- Column lines, to a reader: which line is right, where a wrong one differs, and what a list of lines earns.
use mathlib.Core.Path.{◌≡◌, refl, sym, ap, ◌∙◌}
use mathlib.Core.Bool.{true, false, not}
use mathlib.Core.Logic.{◌⊎◌, inl, inr}
use mathlib.Core.List.{List, [], ◌∷◌}
use Prim.Native.Nat.{ℕ, ◌<◌, ◌≤◌}
use native.Mathlib.Omega.{arith}
use lib.ListN.{length, get_or, drop}
use Rattle.plans.specs.Refusals.{Verdict, passed, refused}
use Rattle.text.specs.Bytes.{every, before}
use Rattle.text.specs.Inner.Counts.{without}
use Rattle.text.specs.Lines.{fields, unfields}
use Rattle.text.proofs.BytesLaws.{same_refl}
use Rattle.text.proofs.TestLaws.{true≢false, and_left, and_right, passed_or_failed}
use Rattle.text.proofs.TextTheorems.{unfields-fields, fields-without}
use Rattle.gates.specs.Gate.{Name}
use Rattle.tables.specs.Head.{head_fields, dimensions, LineOrder, reordered}
use Rattle.tables.specs.Refusals.{table_verdict}
use Rattle.tables.specs.Columns.{same_names, first_differing, is_right, right_line, columns_verdict}
use Rattle.tables.proofs.TextLaws.{fields-unfields}
use Rattle.tables.proofs.Acceptance.{passed-accepted}
use Rattle.tables.proofs.ReorderLaws.{same-dimensions}
use Rattle.tables.proofs.CompileLaws.{head-width}
use Rattle.tables.proofs.ColumnLaws.{same-names-refl, same-names_eq, differing_inside, differing_before, differing_at, both_end, right-passes}

-- ---- the right line

module _ (text line : List ℕ) where
  -- a column line is right exactly when its fields are the head's names, in the same order
  pub right_is : (is_right text line ≡ true → fields line ≡ dimensions text) × (fields line ≡ dimensions text → is_right text line ≡ true)
  unfolding is_right
  right_is = ((λ e. sym (same-names_eq (dimensions text) (fields line) e)), (λ e. rw e (same-names-refl (dimensions text))))

  -- no line but the head's names parted by tabs is right
  pub right-is-one : is_right text line ≡ true → line ≡ right_line text
  unfolding right_line
  right-is-one e = sym (unfields-fields line) ∙ ap unfields (right_is.0 e)

-- a name of the head has no tab
names-without : (text : List ℕ) → every (without 9) (dimensions text) ≡ true
unfolding dimensions head_fields
names-without text = go (fields _) (fields-without _)
  where
    go : (fs : List (List ℕ)) → every (without 9) fs ≡ true → every (without 9) (drop 1 fs) ≡ true
    go [] e = e
    go (f ∷ fs) e = and_right (without 9 f) (every (without 9) fs) e

module _ (slice : ℕ) (text : List ℕ) (accepted : table_verdict slice text ≡ passed) where
  -- every accepted table has a right line: the head's names parted by tabs
  pub right-line-is : is_right text (right_line text) ≡ true
  unfolding right_line
  right-line-is =
      (right_is text (right_line text)).1
      (fields-unfields (dimensions text) (head-width text (passed-accepted slice text accepted).head).0 (names-without text))

  -- ---- gate lines in another order

  module _ (ks : List (List ℕ)) (order : LineOrder text ks) where
    names-again : dimensions (reordered text ks) ≡ dimensions text
    names-again = same-dimensions slice text (passed-accepted slice text accepted) ks order

    -- the same line is right
    pub right_in_any-order : (line : List ℕ) → is_right (reordered text ks) line ≡ is_right text line
    unfolding is_right
    right_in_any-order line = ap (λ (names : List Name). same_names names (fields line)) names-again

    -- a wrong line differs at the same field
    pub differing_in_any-order : (line : List ℕ)
        → first_differing (dimensions (reordered text ks)) (fields line) ≡ first_differing (dimensions text) (fields line)
    differing_in_any-order line = ap (λ (names : List Name). first_differing names (fields line)) names-again

    -- the same lines earn the same
    pub verdict_in_any-order : (ls : List (List ℕ)) → columns_verdict (reordered text ks) ls ≡ columns_verdict text ls
    verdict_in_any-order [] = refl
    verdict_in_any-order (line ∷ ls) = rw (right_in_any-order line, verdict_in_any-order ls, names-again)

-- ---- the place of refusal 31

-- two lists of names first differ at k
pub record DiffersFirst (a b : List Name) (k : ℕ) : Type 0 where
  -- k is a name of each, or its end, and not the end of both
  pub inside : (k ≤ length a) × (k ≤ length b)
  pub not_both : length a ≡ k → length b ≡ k → ⊥
  -- the names before are equal
  pub equal_before : (i : ℕ) → i < k → get_or a i [] ≡ get_or b i []
  -- where both have a name there, the two differ
  pub differ : k < length a → k < length b → get_or a k [] ≡ get_or b k [] → ⊥

-- lists of names first differ at one place
pub differs_once : (a b : List Name) (j k : ℕ) → DiffersFirst a b j → DiffersFirst a b k → j ≡ k
differs_once a b j k p q =
    let u : j < k → ⊥ = later j k p q in
    let v : k < j → ⊥ = later k j q p in
    omega arith
  where
    later : (i m : ℕ) → DiffersFirst a b i → DiffersFirst a b m → i < m → ⊥
    later i m p q l =
        let u = q.inside.0 in
        let v = q.inside.1 in
        p.differ (omega arith) (omega arith) (q.equal_before i l)

module _ (text line : List ℕ) where
  -- a wrong line and the head first differ at the field that is the place of refusal 31
  pub differs-there : is_right text line ≡ false → DiffersFirst (dimensions text) (fields line) (first_differing (dimensions text) (fields line))
  unfolding is_right
  differs-there e =
      let a = dimensions text in
      let b = fields line in
      let k = first_differing a b in
      record {
        inside = differing_inside a b;
        not_both = λ p q. true≢false (sym (both_end a b (sym p) (sym q)) ∙ e);
        equal_before = differing_before a b;
        differ = λ h l z. true≢false (sym (rw z (same_refl (get_or b k []))) ∙ differing_at a b h l);
      }

-- ---- what a list of lines earns

module _ (text : List ℕ) where
  -- all lines pass exactly when each is right
  pub all_right : (ls : List (List ℕ)) → (columns_verdict text ls ≡ passed → every (is_right text) ls ≡ true)
      × (every (is_right text) ls ≡ true → columns_verdict text ls ≡ passed)
  all_right [] = ((λ e. refl), (λ e. refl))
  all_right (line ∷ ls) = go (passed_or_failed (is_right text line)) (all_right ls)
    where
      go : (is_right text line ≡ true) ⊎ (is_right text line ≡ false)
          → (columns_verdict text ls ≡ passed → every (is_right text) ls ≡ true) × (every (is_right text) ls ≡ true → columns_verdict text ls ≡ passed)
          → (columns_verdict text (line ∷ ls) ≡ passed → every (is_right text) (line ∷ ls) ≡ true)
          × (every (is_right text) (line ∷ ls) ≡ true → columns_verdict text (line ∷ ls) ≡ passed)
      go (inl t) r = ((λ e. rw t (r.0 (rw t at e))), (λ e. rw t (r.1 (rw t at e))))
      go (inr t) r = (
        (λ e. let z : ◌≡◌ {A = ℕ} 31 0 = ap (λ (v : Verdict). v.number) (rw t at e) in absurd (omega arith)),
        (λ e. absurd (true≢false (sym (rw t at e)))),
      )

  -- one line passes exactly when it is right
  pub verdict-right : (line : List ℕ) → (columns_verdict text (line ∷ []) ≡ passed → is_right text line ≡ true)
      × (is_right text line ≡ true → columns_verdict text (line ∷ []) ≡ passed)
  verdict-right line = ((λ e. and_left (is_right text line) true ((all_right (line ∷ [])).0 e)), right-passes text line)

  -- else the refusal is 31, of the first line that is wrong
  pub first-wrong : (ls : List (List ℕ)) → every (is_right text) ls ≡ false
      → columns_verdict text ls ≡ refused 31 (first_differing (dimensions text) (fields (get_or ls (before (λ l. not (is_right text l)) ls) [])))
  first-wrong [] e = absurd (true≢false e)
  first-wrong (line ∷ ls) e = go (passed_or_failed (is_right text line)) (first-wrong ls)
    where
      go : (is_right text line ≡ true) ⊎ (is_right text line ≡ false)
          → (every (is_right text) ls ≡ false
          → columns_verdict text ls ≡ refused 31 (first_differing (dimensions text) (fields (get_or ls (before (λ l. not (is_right text l)) ls) []))))
          → columns_verdict text (line ∷ ls)
          ≡ refused 31 (first_differing (dimensions text) (fields (get_or (line ∷ ls) (before (λ l. not (is_right text l)) (line ∷ ls)) [])))
      go (inl t) r = rw t (r (rw t at e))
      go (inr t) r = rw t

  -- its number is 0 or 31
  pub verdict-number : (ls : List (List ℕ)) → ((columns_verdict text ls).number ≡ 0) ⊎ ((columns_verdict text ls).number ≡ 31)
  verdict-number ls = go (passed_or_failed (every (is_right text) ls))
    where
      go : (every (is_right text) ls ≡ true) ⊎ (every (is_right text) ls ≡ false)
          → ((columns_verdict text ls).number ≡ 0) ⊎ ((columns_verdict text ls).number ≡ 31)
      go (inl e) = inl (ap (λ (v : Verdict). v.number) ((all_right ls).1 e))
      go (inr e) = inr (ap (λ (v : Verdict). v.number) (first-wrong ls e))
