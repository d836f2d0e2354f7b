-- `all` and `any` over the indices below a number, in the library's words.
use mathlib.Core.Path.{◌≡◌, refl, sym, ap, ◌∙◌}
use mathlib.Core.Bool.{Bool, ◌&&◌, ◌||◌, and_assoc, or_assoc, and-true, or-false}
use Prim.Native.Nat.{ℕ, zero, suc, ◌+◌}
use native.Mathlib.Omega.{arith}
use Rattle.std.specs.List.{list_all, list_any, range_with_len}
use Rattle.plans.specs.Indices.{all, any}

all_front : (f : ℕ → Bool) (n : ℕ) → all f (suc n) ≡ (f 0 && all (λ i. f (suc i)) n)
unfolding all
all_front f zero = sym (and-true (f 0))
all_front f (suc n) = ap (λ (b : Bool). b && f (suc n)) (all_front f n) ∙ and_assoc (f 0) (all (λ i. f (suc i)) n) (f (suc n))

any_front : (f : ℕ → Bool) (n : ℕ) → any f (suc n) ≡ (f 0 || any (λ i. f (suc i)) n)
unfolding any
any_front f zero = sym (or-false (f 0))
any_front f (suc n) = ap (λ (b : Bool). b || f (suc n)) (any_front f n) ∙ or_assoc (f 0) (any (λ i. f (suc i)) n) (f (suc n))

all_from : (f test : ℕ → Bool) (a n : ℕ) → ((i : ℕ) → f i ≡ test (a + i)) → list_all test (range_with_len a n) ≡ all f n
unfolding all
all_from f test a zero e = refl
all_from f test a (suc n) e =
    let here : test a ≡ f 0 = (let z : a ≡ a + 0 = omega arith in ap test z) ∙ sym (e 0) in
    rw (here, all_from (λ i. f (suc i)) test (a + 1) n (λ i. e (suc i) ∙ (let z : a + suc i ≡ a + 1 + i = omega arith in ap test z))) (sym (all_front f n))

any_from : (f test : ℕ → Bool) (a n : ℕ) → ((i : ℕ) → f i ≡ test (a + i)) → list_any test (range_with_len a n) ≡ any f n
unfolding any
any_from f test a zero e = refl
any_from f test a (suc n) e =
    let here : test a ≡ f 0 = (let z : a ≡ a + 0 = omega arith in ap test z) ∙ sym (e 0) in
    rw (here, any_from (λ i. f (suc i)) test (a + 1) n (λ i. e (suc i) ∙ (let z : a + suc i ≡ a + 1 + i = omega arith in ap test z))) (sym (any_front f n))

pub all-range : (test : ℕ → Bool) (n : ℕ) → list_all test (range_with_len 0 n) ≡ all test n
all-range test n = all_from test test 0 n (λ i. let z : i ≡ 0 + i = omega arith in ap test z)

pub any-range : (test : ℕ → Bool) (n : ℕ) → list_any test (range_with_len 0 n) ≡ any test n
any-range test n = any_from test test 0 n (λ i. let z : i ≡ 0 + i = omega arith in ap test z)
