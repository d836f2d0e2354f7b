-- What a chain over a range of indices answers, in the words of specs/Indices: `all`, `any`, `find`, and `filter(..).count()`.
use Rattle.std.proofs.Common.{ℕ, zero, suc, ◌+◌, ◌-◌, Bool, true, false, not, cond, ◌&&◌, ◌||◌, ◌≡◌, refl, ap, ◌∙◌, List, [], ◌∷◌, ◌++◌, length, Option, Some, None, unwrap_or, Bor, arith, add-zero, zero-add, length-append, filter, find}
use Rattle.std.specs.List.{range_with_len, list_all, list_any}
use Rattle.std.proofs.lemmas.List.Folds.{list_all-append, list_any-append}
use Rattle.std.proofs.lemmas.List.Elements.{filter-append}
use Rattle.std.specs.declared.ops.Range.{Range}
use Rattle.std.specs.declared.iter.Filter.{Filter}
use Rattle.std.specs.Bool.{⊤}
use Rattle.std.specs.Fn.{Called, CalledAt}
use Rattle.std.specs.List.{FoldsTo}
use Rattle.std.specs.Option.{MatchOption, option_map}
use Rattle.std.specs.Iterator.{YieldsThen, Drains}
use Rattle.std.specs.Iterator.Adapters.{filter_source, filter_callee, filter_steps}
use Rattle.std.proofs.iter.Yields.{nat_range_steps}
use Rattle.std.proofs.lemmas.Iterator.{YieldsList-from_range}
use Rattle.std.proofs.lemmas.Iterator.Search.{all_from_yields_List, any_from_yields_List, find_from_yields_List}
use Rattle.std.proofs.lemmas.Iterator.Consumers.{YieldsList-from_filter, count_from_yields_List}
use denote.Param.Members.{Mut}
use Rattle.plans.specs.Indices.{all, any, how_many, first_bad}

and_right-true : (a : Bool) → (a && true) ≡ a
and_right-true true = refl
and_right-true false = refl

or_right-false : (a : Bool) → (a || false) ≡ a
or_right-false true = refl
or_right-false false = refl

-- one index more
range_more : (a n j : ℕ) → j ≡ a + n → range_with_len a (suc n) ≡ range_with_len a n ++ j ∷ []
range_more a zero j e = let h : a ≡ j = omega (arith, e) in ap (λ k. k ∷ []) h
range_more a (suc n) j e = let h : j ≡ a + 1 + n = omega (arith, e) in ap (λ xs. a ∷ xs) (range_more (a + 1) n j h)

one_more : (n : ℕ) → range_with_len 0 (suc n) ≡ range_with_len 0 n ++ n ∷ []
one_more n = let e : n ≡ 0 + n = omega arith in range_more 0 n n e

-- ---- lists of indices

pub list_all-range : (test : ℕ → Bool) (n : ℕ) → list_all test (range_with_len 0 n) ≡ all test n
unfolding all
list_all-range test zero = refl
list_all-range test (suc n) =
    ap (λ xs. list_all test xs) (one_more n) ∙ list_all-append test (range_with_len 0 n) (n ∷ []) ∙ rw (list_all-range test n, and_right-true (test n)) refl

pub list_any-range : (test : ℕ → Bool) (n : ℕ) → list_any test (range_with_len 0 n) ≡ any test n
unfolding any
list_any-range test zero = refl
list_any-range test (suc n) =
    ap (λ xs. list_any test xs) (one_more n) ∙ list_any-append test (range_with_len 0 n) (n ∷ []) ∙ rw (list_any-range test n, or_right-false (test n)) refl

pub length-filter-range : (test : ℕ → Bool) (n : ℕ) → length (filter test (range_with_len 0 n)) ≡ how_many test n
unfolding how_many
length-filter-range test zero = refl
length-filter-range test (suc n) =
    ap (λ xs. length (filter test xs)) (one_more n) ∙ ap (λ xs. length xs) (filter-append test (range_with_len 0 n) (n ∷ []))
    ∙ length-append (filter test (range_with_len 0 n)) (filter test (n ∷ [])) ∙ rw (length-filter-range test n) (go (test n))
  where
    go : (b : Bool) → how_many test n + length (cond b (n ∷ []) []) ≡ cond b (how_many test n + 1) (how_many test n)
    go true = refl
    go false = add-zero (how_many test n)

pub find-range : (good : ℕ → Bool) (a n d : ℕ) → d ≡ a + n → unwrap_or (find (λ i. not (good i)) (range_with_len a n)) d ≡ first_bad good a n
unfolding first_bad
find-range good a zero d e = e ∙ add-zero a
find-range good a (suc n) d e = let h : d ≡ a + 1 + n = omega (arith, e) in go (good a) (find-range good (a + 1) n d h)
  where
    rest : Option ℕ
    rest = find (λ i. not (good i)) (range_with_len (a + 1) n)

    go : (b : Bool) → unwrap_or rest d ≡ first_bad good (a + 1) n → unwrap_or (cond (not b) (Some a) rest) d ≡ cond b (first_bad good (a + 1) n) a
    go true h = h
    go false h = refl

-- ---- what the chains answer, where the closure's answer is the test: cite them with the call's clauses, as
-- all_in_range (λ t. leb 1 (f t)) n _ _ _ (cc) c.all.ensures.ran (λ x b q k. search (rules, tests))

none_before : (n : ℕ) → n - 0 ≡ n
none_before n = omega arith

module _ {F : Type 0} {g : Mut F (ℕ × Unit {0}) Bool} {s : Range ℕ} (test : ℕ → Bool) (n : ℕ) (u : Range ℕ) (f : F) (r : Bool)
    (all_of : s ≡ record { start = 0; end = n }) where
  pub all_in_range : (xs : List ℕ) × (o : Option ℕ) × (j : F) × YieldsThen nat_range_steps s xs o u × FoldsTo (λ p x q. Called g p (x, tt) true q) f xs j
      × MatchOption o (r ≡ true) (λ x. (r ≡ false) × ((h : F) × Called g j (x, tt) false h))
      → ((x : ℕ) (b : Bool) (q : F) → Called g f (x, tt) b q → (q ≡ f) × (b ≡ test x)) → r ≡ all test n
  all_in_range ran closure = all_from_yields_List test u f r ran (YieldsList-from_range 0 n n all_of (none_before n)) closure ∙ list_all-range test n

  pub any_in_range : (xs : List ℕ) × (o : Option ℕ) × (j : F) × YieldsThen nat_range_steps s xs o u × FoldsTo (λ p x q. Called g p (x, tt) false q) f xs j
      × MatchOption o (r ≡ false) (λ x. (r ≡ true) × ((h : F) × Called g j (x, tt) true h))
      → ((x : ℕ) (b : Bool) (q : F) → Called g f (x, tt) b q → (q ≡ f) × (b ≡ test x)) → r ≡ any test n
  any_in_range ran closure = any_from_yields_List test u f r ran (YieldsList-from_range 0 n n all_of (none_before n)) closure ∙ list_any-range test n

module _ {F : Type 0} {g : Mut F (Bor ℕ × Unit {0}) Bool} (test : ℕ → Bool) (n : ℕ) where
  pub how_many_in_range : {filtered : Filter (Range ℕ) F} {f : F} (r : ℕ) → filter_source filtered ≡ record { start = 0; end = n }
      → (xs : List ℕ) × Drains (filter_steps nat_range_steps g) filtered xs × (r ≡ length xs) → filter_callee filtered ≡ f
      → ((x : ℕ) (b : Bool) (q : F) → CalledAt g f x b q → (q ≡ f) × (b ≡ test x)) → r ≡ how_many test n
  how_many_in_range {filtered} r source ran callee closure =
      count_from_yields_List filtered r ran (YieldsList-from_filter g test (YieldsList-from_range 0 n n source (none_before n)) callee closure)
      ∙ length-filter-range test n

  pub first_in_range : {s : Range ℕ} (u : Range ℕ) (f : F) (r : Option ℕ) (good : ℕ → Bool) → ((i : ℕ) → test i ≡ not (good i))
      → s ≡ record { start = 0; end = n }
      → (xs : List ℕ) × (j : F) × YieldsThen nat_range_steps s xs r u × FoldsTo (λ p x q. CalledAt g p x false q) f xs j
      × MatchOption r ⊤ (λ x. (h : F) × CalledAt g j x true h)
      → ((x : ℕ) (b : Bool) (q : F) → CalledAt g f x b q → (q ≡ f) × (b ≡ test x)) → unwrap_or r n ≡ first_bad good 0 n
  first_in_range u f r good e source ran closure =
      ap (λ o. unwrap_or o n) (same_option r
      ∙ find_from_yields_List (λ i. not (good i)) u f r ran (YieldsList-from_range 0 n n source (none_before n))
      (λ x b q k. let a = closure x b q k in (a.0, a.1 ∙ e x)))
      ∙ find-range good 0 n n (let h : n ≡ 0 + n = omega arith in h)
    where
      same_option : (o : Option ℕ) → o ≡ option_map (λ x. x) o
      same_option None = refl
      same_option (Some x) = refl
