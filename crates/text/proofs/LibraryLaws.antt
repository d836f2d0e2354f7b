-- The words of specs/ in the library's words, in which it says what `==`, `iter().all`, `position` and `split` answer.
use Rattle.std.proofs.Common.{◌≡◌, ℕ, suc, Bool, true, false, cond, List, [], ◌∷◌, ◌<◌, ◌≤◌, ◌&&◌, ◌||◌, Option, Some, None, Bor}
use Rattle.std.proofs.Common.{eqb, ltb, length, one-add, arith, ⊎_elim, unwrap_or, refl, sym, ap, ◌∙◌}
use Rattle.std.specs.Cmp.Lexicographic.{pointwise}
use Rattle.std.specs.Option.{option_map}
use Rattle.std.specs.List.{list_all, list_any, position_or_len, slice_split, onto_first}
use Rattle.std.proofs.lemmas.List.Recursion.{is_position_or_len}
use borrow.Author.Tests.{lt-ltb, le-ltb}
use Rattle.text.specs.Bytes.{same, every, before}
use Rattle.text.specs.Lines.{push, parts, fields}
use Rattle.text.proofs.TestLaws.{lt_or_ge}
use Rattle.text.proofs.BytesLaws.{before_le}

pub same_is : (a b : List ℕ) → same a b ≡ pointwise eqb a b
unfolding same
same_is [] [] = refl
same_is [] (y ∷ b) = refl
same_is (x ∷ a) [] = refl
same_is (x ∷ a) (y ∷ b) = ap (λ t. eqb x y && t) (same_is a b)

pub every_is : {A : Type 0} (f : A → Bool) (s : List A) → every f s ≡ list_all f s
every_is f [] = refl
every_is f (x ∷ s) = ap (λ t. f x && t) (every_is f s)

pub before_is : {A : Type 0} (f : A → Bool) (s : List A) → before f s ≡ position_or_len f s
before_is f s = is_position_or_len (before f) f refl (λ x r. rw one-add) s

-- what `position` answers, with the length where it answers none
pub before_or : {A : Type 0} (f : A → Bool) (s : List A) (r : Option ℕ)
    → r ≡ cond (ltb (position_or_len f s) (length s)) (Some (position_or_len f s)) None → unwrap_or r (length s) ≡ before f s
before_or f s r e = rw (e, ← before_is f s) (inside (before f s) (length s) (before_le f s))
  where
    inside : (p n : ℕ) → p ≤ n → unwrap_or (cond (ltb p n) (Some p) None) n ≡ p
    inside p n h =
        ⊎_elim (λ (l : p < n). rw (lt-ltb p n l)) (λ (l : n ≤ p). rw (le-ltb p n l) (omega arith)) (lt_or_ge p n)

-- whether f holds of any
pub any_is : {A : Type 0} (f : A → Bool) (s : List A) → list_any f s ≡ ltb (before f s) (length s)
any_is f [] = refl
any_is f (x ∷ s) = go (f x) (any_is f s)
  where
    later : (p n : ℕ) → ltb p n ≡ ltb (suc p) (suc n)
    later p n =
        ⊎_elim
        (λ (l : p < n). rw (lt-ltb p n l, lt-ltb (suc p) (suc n) (omega arith)))
        (λ (l : n ≤ p). rw (le-ltb p n l, le-ltb (suc p) (suc n) (omega arith)))
        (lt_or_ge p n)

    go : (b : Bool) → list_any f s ≡ ltb (before f s) (length s) → (b || list_any f s) ≡ ltb (cond b 0 (suc (before f s))) (suc (length s))
    go true e = sym (lt-ltb 0 (suc (length s)) (omega arith))
    go false e = e ∙ later (before f s) (length s)

-- parts of which the end leaves an empty one
pub parts_is : (c : ℕ) (s : List ℕ) → parts c ([] ∷ []) s ≡ slice_split (λ x. eqb x c) s
parts_is c [] = refl
parts_is c (x ∷ s) = go (parts c ([] ∷ []) s) (slice_split (λ x. eqb x c) s) (parts_is c s)
  where
    go : (p q : List (List ℕ)) → p ≡ q → cond (eqb x c) ([] ∷ p) (push x p) ≡ cond (eqb x c) ([] ∷ q) (onto_first x q)
    go p [] e = rw e
    go p (l ∷ q) e = rw e

pub fields_is : (s : List ℕ) → fields s ≡ slice_split (λ x. eqb x 9) s
unfolding fields
fields_is s = parts_is 9 s

-- what is left of an option of references
pub now_or : {A : Type 0} (o : Option (Bor A)) (d : Bor A) → (unwrap_or o d).now ≡ unwrap_or (option_map (λ x. x.now) o) d.now
now_or None d = refl
now_or (Some x) d = refl
