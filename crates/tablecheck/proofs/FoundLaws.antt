-- What a search over indices answers: the first that fails a test, if it is below n.
use Rattle.std.proofs.Common.{◌≡◌, refl, sym, ◌∙◌, ℕ, ◌+◌, ◌<◌, ◌≤◌, Bool, true, false, not, cond, ltb, List, Option, Some, None, arith}
use Rattle.std.specs.declared.ops.Range.{Range}
use Rattle.std.proofs.iter.Yields.{nat_range_steps}
use Rattle.std.proofs.lemmas.Iterator.{first_from_Range}
use Rattle.std.specs.Bool.{⊤}
use Rattle.std.specs.Fn.{CalledAt}
use Rattle.std.specs.Iterator.{YieldsThen}
use Rattle.std.specs.List.{FoldsTo}
use Rattle.std.specs.Option.{MatchOption}
use borrow.Author.Tests.{lt-ltb, le-ltb, ltb-true, ltb-false}
use denote.Param.Members.{Mut}
use denote.Ref.{Bor}
use Rattle.plans.specs.Indices.{first_bad}
use Rattle.plans.proofs.IndexLaws.{first-is, first-none}
use Rattle.tablecheck.specs.Inner.Names.{below}

module _ (n : ℕ) {i : ℕ} where
  pub some_below : {k : ℕ} → k ≡ i → k < n → Some k ≡ below n i
  some_below {k} e h = rw (← e, lt-ltb k n h)

  pub none_below : n ≤ i → None ≡ below n i
  none_below h = rw (le-ltb i n h)

  pub below_some : {k : ℕ} → Some k ≡ below n i → (k ≡ i) × (k < n)
  below_some {k} e = go (ltb i n) refl e
    where
      go : (b : Bool) → ltb i n ≡ b → Some k ≡ cond b (Some i) None → (k ≡ i) × (k < n)
      go true h f = let z : k ≡ i = cc in (z, rw z (ltb-true i n h))
      go false h f = cc

  pub below_none : None ≡ below n i → n ≤ i
  below_none e = go (ltb i n) refl e
    where
      go : (b : Bool) → ltb i n ≡ b → None ≡ cond b (Some i) None → n ≤ i
      go true h f = cc
      go false h f = ltb-false i n h

pub not_back : (x b : Bool) → b ≡ not x → x ≡ not b
not_back true b e = rw e
not_back false b e = rw e

-- what `find` over the indices below n finds, where `good` is what the closure says no to
pub found_below : {F : Type 0} {g : Mut F (Bor ℕ × Unit {0}) Bool} (good : ℕ → Bool) (n : ℕ) (u : Range ℕ) (f : F) (r : Option ℕ)
    → (xs : List ℕ) × (j : F) × YieldsThen nat_range_steps (record { start = 0; end = n }) xs r u × FoldsTo (λ p x q. CalledAt g p x false q) f xs j
    × MatchOption r ⊤ (λ x. (h : F) × CalledAt g j x true h)
    → ((x : ℕ) (b : Bool) (q : F) → CalledAt g f x b q → (q ≡ f) × (good x ≡ not b)) → r ≡ below n (first_bad good 0 n)
found_below good n u f r ran says =
    go r (first_from_Range (record { start = 0; end = n }) u f r (λ i. good i ≡ false) (λ i. good i ≡ true) ran
    (λ x q k. (says x true q k).1)
    (λ x q k. says x false q k))
  where
    go : (o : Option ℕ) → MatchOption o ((k : ℕ) → 0 ≤ k → k < n → good k ≡ true)
        (λ i. (0 ≤ i) × (i < n) × (good i ≡ false) × ((k : ℕ) → 0 ≤ k → k < i → good k ≡ true)) → o ≡ below n (first_bad good 0 n)
    go None h = let e : n ≤ 0 + n = omega arith in none_below n (rw (first-none good 0 n (λ j a b. h j a (omega arith))) e)
    go (Some i) h = some_below n (sym (first-is good 0 n i h.0 (omega (arith, h.1)) h.3 h.2)) h.1
