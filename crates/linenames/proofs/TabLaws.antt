-- Searches through the elements of a table.
use mathlib.Core.Path.{◌≡◌, refl, sym, ap, ap₂, ◌∙◌}
use mathlib.Core.Bool.{Bool, true, false, not, ◌||◌}
use mathlib.Core.List.Memᴰ
use mathlib.Core.List.{List, [], ◌∷◌, ◌++◌}
use Prim.Native.Nat.{ℕ, zero, suc, ◌<◌}
use native.Mathlib.Omega.{arith}
use native.Mathlib.Decide.{dec_lt}
use lib.Dec.{ltb}
use borrow.Author.Tests.{lt-ltb, le-ltb}
use Rattle.plans.specs.Indices.{any, first_bad}
use Rattle.plans.proofs.IndexLaws.{first-at, first-before}
use Rattle.text.specs.Bounded.{tab}
use Rattle.text.proofs.BoundedLaws.{length-tab, get_or-tab}
use Rattle.text.proofs.TestLaws.{true≢false}
use Rattle.tables.specs.Table.{◌∈◌, some_of}
use Rattle.tables.proofs.ListLaws.{some_at, some-found, at_in, index_of, not-not, not-true, unless}

module _ {A : Type 0} (f : ℕ → A) (n : ℕ) where
  pub tab_in : (i : ℕ) → i < n → f i ∈ tab f n
  tab_in i h = Memᴰ.cast (sym (get_or-tab f (f i) n i h)) (at_in (f i) (tab f n) i (rw (length-tab f n) h))

  pub in_tab : {x : A} → x ∈ tab f n → (i : ℕ) × (i < n) × (f i ≡ x)
  in_tab {x} m =
      let w = index_of x (tab f n) m in
      let h : w.0 < n = rw (length-tab f n) at w.1 in
      (w.0, h, sym (get_or-tab f x n w.0 h) ∙ w.2)

  module _ (p : A → Bool) (other : ℕ → Bool) (e : (i : ℕ) → other i ≡ not (p (f i))) where
    -- the first that passes is there where some pass
    pub found_some : ltb (first_bad other 0 n) n ≡ some_of p (tab f n)
    found_some = go (dec_lt (first_bad other 0 n) n)
      where
        go : Dec (first_bad other 0 n < n) → ltb (first_bad other 0 n) n ≡ some_of p (tab f n)
        go (yes h) =
            lt-ltb (first_bad other 0 n) n h
            ∙ sym (some_at p (tab_in (first_bad other 0 n) h)
            (not-not (p (f (first_bad other 0 n))) (sym (e (first_bad other 0 n)) ∙ first-at other 0 n (omega arith))))
        go (no h) =
            le-ltb (first_bad other 0 n) n (omega arith)
            ∙ sym (unless (some_of p (tab f n)) (λ t.
            let w = some-found p (tab f n) t in
            let i = in_tab w.1 in
            let q : p (f i.0) ≡ false = not-true (p (f i.0)) (sym (e i.0) ∙ first-before other 0 n i.0 (omega arith) (omega (arith, i.1))) in
            true≢false (sym w.2 ∙ ap p (sym i.2) ∙ q)))

some-last : {A : Type 0} (p : A → Bool) (l : List A) (x : A) → some_of p (l ++ (x ∷ [])) ≡ (some_of p l || p x)
some-last p [] x = go (p x)
  where
    go : (b : Bool) → (b || false) ≡ b
    go true = refl
    go false = refl
some-last p (y ∷ l) x = rw (some-last p l x) (go (p y))
  where
    go : (b : Bool) → (b || (some_of p l || p x)) ≡ ((b || some_of p l) || p x)
    go true = refl
    go false = refl

pub any_some : {A : Type 0} (f : ℕ → A) (p : A → Bool) (test : ℕ → Bool) → ((i : ℕ) → test i ≡ p (f i)) → (n : ℕ) → any test n ≡ some_of p (tab f n)
unfolding any
any_some f p test e zero = refl
any_some f p test e (suc n) = ap₂ ◌||◌ (any_some f p test e n) (e n) ∙ sym (some-last p (tab f n) (f n))
