-- Laws of specs/Printing: a line is written part behind part.
use mathlib.Core.Path.{◌≡◌, refl, sym, ◌∙◌, ap}
use mathlib.Core.List.{List, [], ◌∷◌, ◌++◌, append_assoc}
use Prim.Native.Nat.{ℕ, zero, suc, ◌+◌}
use native.Mathlib.Nat.{zero-add}
use native.Mathlib.Omega.{arith}
use lib.ListN.{length, length-append, take, drop}
use denote.Ref.{MutBor}
use denote.Param.Members.{Once}
use Rattle.std.specs.Fn.{FnOnceReturnsAtMut}
use Rattle.text.specs.Output.{over}
use Rattle.text.specs.Inner.Writing.{over_from}
use Rattle.events.specs.Printing.{number_field, numbers_line, count_line}
use Rattle.text.proofs.WritingLaws.{over-nil, over-from}

-- p, of length a, is written over d
abbrev pub Written : List ℕ → List ℕ → ℕ → List ℕ → Type 0
Written p d a x = (a ≡ length p) × (x ≡ over p d)

-- q, of length c, is written from index a on
abbrev pub WrittenFrom : ℕ → List ℕ → List ℕ → ℕ → List ℕ → Type 0
WrittenFrom a q x c y = (c ≡ length q) × (y ≡ over_from a q x)

pub written-more : (p d q : List ℕ) {x y : List ℕ} {a c : ℕ} → Written p d a x → WrittenFrom a q x c y → Written (p ++ q) d (a + c) y
written-more p d q w v = (simp length-append (omega arith), over-from p d _ _ q _ (sym w.0) w.1 v.1)

-- the same behind what stands from an index on
from-nil : (a : ℕ) (q : List ℕ) → over_from a q [] ≡ []
unfolding over_from
from-nil zero q = over-nil q
from-nil (suc a) q = over-nil q

behind-nil : (a b : ℕ) (p q : List ℕ) → over_from b q (over_from a p []) ≡ over_from a (p ++ q) []
behind-nil a b p q = rw (from-nil a p) (from-nil b q ∙ sym (from-nil a (p ++ q)))

over-behind : (a : ℕ) (p d q : List ℕ) → over_from (a + length p) q (over_from a p d) ≡ over_from a (p ++ q) d
unfolding over_from
over-behind zero p d q = rw zero-add (over-from p d (over p d) _ q (length p) refl refl refl)
over-behind (suc a) p [] q = behind-nil (suc a) (suc a + length p) p q
over-behind (suc a) p (y ∷ d) q =
    let e : suc a + length p ≡ suc (a + length p) = omega arith in
    rw e (ap (λ (l : List ℕ). y ∷ l) (over-behind a p d q))

pub from_more : (a : ℕ) (p d q : List ℕ) {x y : List ℕ} {c e : ℕ} → WrittenFrom a p d c x → WrittenFrom (a + c) q x e y → WrittenFrom a (p ++ q) d (c + e) y
from_more a p d q w v = (simp length-append (omega arith), v.1 ∙ rw (w.0, w.1) (over-behind a p d q))

module _ (d : List ℕ) {x₁ x₂ x₃ : List ℕ} {a b c : ℕ} (name : List ℕ) (n : ℕ) (w₁ : Written name d a x₁) (w₂ : WrittenFrom a (number_field n) x₁ b x₂) where
  pub count-written : WrittenFrom (a + b) (10 ∷ []) x₂ c x₃ → Written (count_line name n) d (a + b + c) x₃
  unfolding count_line
  count-written w₃ = rw append_assoc at (written-more (name ++ number_field n) d (10 ∷ []) (written-more name d (number_field n) w₁ w₂) w₃)

  pub refused-written : {x₄ : List ℕ} {e : ℕ} (k : ℕ) → WrittenFrom (a + b) (number_field k) x₂ c x₃ → WrittenFrom (a + b + c) (10 ∷ []) x₃ e x₄
      → Written (numbers_line name (n ∷ k ∷ [])) d (a + b + c + e) x₄
  refused-written k w₃ w₄ =
      let q : ((name ++ number_field n) ++ number_field k) ++ (10 ∷ []) ≡ numbers_line name (n ∷ k ∷ []) = simp append_assoc in
      let v₂ = written-more name d (number_field n) w₁ w₂ in
      let v₃ = written-more (name ++ number_field n) d (number_field k) v₂ w₃ in
      rw q at (written-more ((name ++ number_field n) ++ number_field k) d (10 ∷ []) v₃ w₄)

-- what a call wrote over what stands from index a on
pub from-call : {A F : Type 0} (g : Once F (MutBor (List A) × Unit {0}) (ℕ × (MutBor (List A) × Unit {0}))) {f : F} (a : ℕ) (s d x : List A) (r : ℕ)
    → ((y z : MutBor (List A)) (k : ℕ) → g.post f (y, tt) (k, (z, tt)) → (k ≡ length s) × (z.now ≡ over s y.now))
    → (q : List A) × FnOnceReturnsAtMut g f (drop a d) r q × (x ≡ take a d ++ q) → (r ≡ length s) × (x ≡ over_from a s d)
unfolding over_from
from-call g a s d x r says (q, m, e) =
    let w = says m.shown m.left r m.met in
    (w.0, e ∙ rw (← m.leaves, w.1, m.shows))
