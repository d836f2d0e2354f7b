-- What a search over a range finds: the first index that fails a test.
use Rattle.std.proofs.Common.{◌≡◌, sym, ◌∙◌, ℕ, ◌+◌, ◌-◌, ◌<◌, ◌≤◌, Bool, true, false, not, List, Option, Some, None, arith}
use Rattle.std.specs.declared.ops.Range.{Range}
use Rattle.std.proofs.iter.Yields.{nat_range_steps}
use Rattle.std.proofs.lemmas.Iterator.{first_from_Range}
use Rattle.std.specs.Bool.{⊤}
use Rattle.std.specs.Fn.{CalledAt}
use Rattle.std.specs.Iterator.{YieldsThen}
use Rattle.std.specs.List.{FoldsTo}
use Rattle.std.specs.Option.{MatchOption, unwrap_or}
use Rattle.plans.specs.Indices.{first_bad}
use Rattle.plans.proofs.IndexLaws.{first-is, first-none}
use denote.Param.Members.{Mut}
use denote.Ref.{Bor}

-- `good` is what the closure says no to
pub first_found : {F : Type 0} {g : Mut F (Bor ℕ × Unit {0}) Bool} (good : ℕ → Bool) (n : ℕ) (u : Range ℕ) (f : F) (r : Option ℕ)
    → (xs : List ℕ) × (j : F) × YieldsThen nat_range_steps (record { start = 0; end = n }) xs r u × FoldsTo (λ p x q. CalledAt g p x false q) f xs j
    × MatchOption r ⊤ (λ x. (h : F) × CalledAt g j x true h)
    → ((x : ℕ) (b : Bool) (q : F) → CalledAt g f x b q → (q ≡ f) × (good x ≡ not b)) → unwrap_or r n ≡ first_bad good 0 n
first_found good n u f r ran says =
    go r (first_from_Range (record { start = 0; end = n }) u f r (λ i. good i ≡ false) (λ i. good i ≡ true) ran
    (λ x q k. (says x true q k).1)
    (λ x q k. says x false q k))
  where
    go : (o : Option ℕ) → MatchOption o ((k : ℕ) → 0 ≤ k → k < n → good k ≡ true)
        (λ i. (0 ≤ i) × (i < n) × (good i ≡ false) × ((k : ℕ) → 0 ≤ k → k < i → good k ≡ true)) → unwrap_or o n ≡ first_bad good 0 n
    go None h = sym (first-none good 0 n (λ j a b. h j a (omega arith)) ∙ (let e : 0 + n ≡ n = omega arith in e))
    go (Some i) h = sym (first-is good 0 n i h.0 (omega (arith, h.1)) h.3 h.2)
