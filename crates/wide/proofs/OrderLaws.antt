-- The order of values as the code finds it, by the words with the sign bit turned; and what callers ask of an order: of differences, of multiples, `Greater`.
use Rattle.std.proofs.Common.{◌≡◌, ℕ, suc, ◌+◌, ◌-◌, ◌*◌, ◌%◌, ◌^◌, ◌<◌, ◌≤◌, Bool, true, false, cond, ◌&&◌, ◌||◌, T, eqb, ltb, ℤ, pos, negsuc, ◌+ℤ◌, ◌-ℤ◌, ◌*ℤ◌, ◌<ℤ◌, sym, refl, ap, ◌∙◌, subst, ap₂, ⊎_elim, le_of_eq, le_of_lt, mul-le-mul_right, lt_of_mul-lt-mul_right, arith, eqb→eq, ltb→lt, to_z, ltb-false, ltb-true, le-ltb, lt-ltb, eqb-true}
use borrow.Author.Tests.{eqb-false}
use lib.Signed.{lt_z}
use mir.Syntax.{w128}
use mir.Val.{sel}
use Rattle.integers.proofs.Booleans.{and_split, or_split}
use Rattle.integers.proofs.Parts.{add_ud}
use Rattle.integers.proofs.Order.{zarith, lt_z_add, lt_z_sub, sub_lt_z}
use Rattle.integers.proofs.Products.{lt_z_mul}
use Rattle.std.specs.Ordering.{is_gt}
use Rattle.wide.specs.declared.Wide.{Wide}
use Rattle.std.specs.declared.cmp.Ordering.TheVariants.{Less, Equal, Greater}
use Rattle.wide.specs.Inner.Values.{value, order_of}
use Rattle.wide.proofs.WordLaws.{bits_below}
use Rattle.wide.proofs.ValueLaws.{Sized}

-- ---- the sign bit turned, over words below any base: half · base is 2^127
module _ (base : ℕ) where
  lower-half : (half high low : ℕ) → high * base + low < half * base → high < half
  lower-half half high low e = lt_of_mul-lt-mul_right base (omega arith)

  upper-half : (half high low : ℕ) → low < base → half * base ≤ high * base + low → half ≤ high
  upper-half half high low k e =
      let f : half < suc high = lt_of_mul-lt-mul_right base {m = half} {n = suc high} (omega arith) in
      omega arith

  raised : (half high low x : ℕ) → x ≡ high + half → pos (high * base + low) +ℤ pos (half * base) ≡ pos (x * base + low)
  raised half high low x e =
      let f : (high * base + low) + half * base ≡ x * base + low = omega (arith, ap (λ (k : ℕ). k * base) e) in
      ap pos f

  lowered : (half high low x modulus : ℕ) → x + half ≡ high → modulus ≡ half * base + half * base → high * base + low < modulus →
      negsuc (modulus - suc (high * base + low)) +ℤ pos (half * base) ≡ pos (x * base + low)
  lowered half high low x modulus e f g =
      let k = ap (λ (k : ℕ). k * base) e in
      omega (zarith, add_ud (negsuc (modulus - suc (high * base + low))) (pos (half * base)))

-- a number plus 2^127 is what its bits are with the sign bit turned
pub turned : (high low x : ℕ) → high < 2 ^ 64 → low < 2 ^ 64 → x ≡ (high + 2 ^ 63) % 2 ^ 64 →
    to_z w128 (high * 2 ^ 64 + low) +ℤ pos (2 ^ 127) ≡ pos (x * 2 ^ 64 + low)
turned high low x h k e = choose (ltb (high * 2 ^ 64 + low) (2 ^ 127)) refl
  where
    up_by : (high x : ℕ) → high < 2 ^ 63 → x ≡ (high + 2 ^ 63) % 2 ^ 64 → x ≡ high + 2 ^ 63
    up_by high x h e = omega arith

    down_by : (high x : ℕ) → 2 ^ 63 ≤ high → high < 2 ^ 64 → x ≡ (high + 2 ^ 63) % 2 ^ 64 → x + 2 ^ 63 ≡ high
    down_by high x h k e = omega arith

    choose : (t : Bool) → ltb (high * 2 ^ 64 + low) (2 ^ 127) ≡ t →
        sel t (pos (high * 2 ^ 64 + low)) (negsuc (2 ^ 128 - suc (high * 2 ^ 64 + low))) +ℤ pos (2 ^ 127) ≡ pos (x * 2 ^ 64 + low)
    choose true g =
        let i = lower-half (2 ^ 64) (2 ^ 63) high low (ltb-true (high * 2 ^ 64 + low) (2 ^ 127) g) in
        raised (2 ^ 64) (2 ^ 63) high low x (up_by high x i e)
    choose false g =
        let i = upper-half (2 ^ 64) (2 ^ 63) high low k (ltb-false (high * 2 ^ 64 + low) (2 ^ 127) g) in
        lowered (2 ^ 64) (2 ^ 63) high low x (2 ^ 128) (down_by high x i h e) refl (bits_below high low h k)

-- ---- the order of two numbers by their words, as the code's flags have it
module _ (base : ℕ) (x y a b : ℕ) where
  words_less : a < base → x < y → x * base + a < y * base + b
  words_less h k = omega (arith, mul-le-mul_right base k)

  words-lower : x ≡ y → a < b → x * base + a < y * base + b
  words-lower e h = omega (arith, ap (λ (k : ℕ). k * base) e)

module _ (base : ℕ) (x y a b : ℕ) (a-below : a < base) (b-below : b < base) where
  flag_less : (ltb x y || (eqb x y && ltb a b)) ≡ true → x * base + a < y * base + b
  flag_less g =
      ⊎_elim
      (λ t. words_less base x y a b a-below (ltb→lt x y t))
      (λ t. let u = and_split (eqb x y) (ltb a b) t in words-lower base x y a b (eqb→eq x y u.0) (ltb→lt a b u.1))
      (or_split (ltb x y) (eqb x y && ltb a b) (subst T (sym g) tt))

  flag_same : (eqb x y && eqb a b) ≡ true → x * base + a ≡ y * base + b
  flag_same g =
      let u = and_split (eqb x y) (eqb a b) (subst T (sym g) tt) in
      ap₂ (λ (m n : ℕ). m * base + n) (eqb→eq x y u.0) (eqb→eq a b u.1)

  flag_more : (ltb x y || (eqb x y && ltb a b)) ≡ false → (eqb x y && eqb a b) ≡ false → y * base + b < x * base + a
  flag_more g h = go (ltb x y) (eqb x y) (ltb a b) (eqb a b) refl refl refl refl g h
    where
      go : (t u v w : Bool) → ltb x y ≡ t → eqb x y ≡ u → ltb a b ≡ v → eqb a b ≡ w → (t || (u && v)) ≡ false → (u && w) ≡ false →
          y * base + b < x * base + a
      go true u v w i j k l g h = absurd (subst T g tt)
      go false false v w i j k l g h =
          let m = ltb-false x y i in
          let n = eqb-false x y j in
          words_less base y x b a b-below (omega arith)
      go false true true w i j k l g h = absurd (subst T g tt)
      go false true false true i j k l g h = absurd (subst T h tt)
      go false true false false i j k l g h =
          let m = ltb-false a b k in
          let n = eqb-false a b l in
          words-lower base y x b a (sym (eqb-true x y j)) (omega arith)

-- ---- the order of two values
value-turned : {w : Wide} {x : ℕ} → Sized w → x ≡ (w.high + 2 ^ 63) % 2 ^ 64 → value w +ℤ pos (2 ^ 127) ≡ pos (x * 2 ^ 64 + w.low)
unfolding value
value-turned {w} {x} s e = turned w.high w.low x s.high_fits s.low_fits e

module _ (a b : Wide) (x y : ℕ) (a-sized : Sized a) (b-sized : Sized b)
    (x-is : x ≡ (a.high + 2 ^ 63) % 2 ^ 64) (y-is : y ≡ (b.high + 2 ^ 63) % 2 ^ 64) where
  abbrev at_a : ℕ
  at_a = x * 2 ^ 64 + a.low

  abbrev at_b : ℕ
  at_b = y * 2 ^ 64 + b.low

  order_is : order_of (value a) (value b) ≡ cond (ltb at_a at_b) Less (cond (ltb at_b at_a) Greater Equal)
  order_is =
      let e = value-turned a-sized x-is in
      let f = value-turned b-sized y-is in
      ap₂ (λ (t u : Bool). cond t Less (cond u Greater Equal))
      (sym (lt_z_add (value a) (value b) (pos (2 ^ 127))) ∙ ap₂ lt_z e f)
      (sym (lt_z_add (value b) (value a) (pos (2 ^ 127))) ∙ ap₂ lt_z f e)

  pub order_less : (ltb x y || (eqb x y && ltb a.low b.low)) ≡ true → Less ≡ order_of (value a) (value b)
  order_less g =
      let h = flag_less (2 ^ 64) x y a.low b.low a-sized.low_fits b-sized.low_fits g in
      rw (order_is, lt-ltb at_a at_b h)

  pub order_equal : (eqb x y && eqb a.low b.low) ≡ true → Equal ≡ order_of (value a) (value b)
  order_equal g =
      let h = flag_same (2 ^ 64) x y a.low b.low a-sized.low_fits b-sized.low_fits g in
      rw (order_is, le-ltb at_a at_b (le_of_eq (sym h)), le-ltb at_b at_a (le_of_eq h))

  pub order_greater : (ltb x y || (eqb x y && ltb a.low b.low)) ≡ false → (eqb x y && eqb a.low b.low) ≡ false →
      Greater ≡ order_of (value a) (value b)
  order_greater f g =
      let h = flag_more (2 ^ 64) x y a.low b.low a-sized.low_fits b-sized.low_fits f g in
      rw (order_is, le-ltb at_a at_b (le_of_lt h), lt-ltb at_b at_a h)

-- ---- for callers

-- two numbers compare as their difference and 0 do
pub order_sub : (x y : ℤ) → order_of (x -ℤ y) (pos 0) ≡ order_of x y
order_sub x y = rw (lt_z_sub x y, sub_lt_z x y)

-- and as their multiples by a number above 0
pub order_mul : (k x y : ℤ) → pos 0 <ℤ k → order_of (k *ℤ x) (k *ℤ y) ≡ order_of x y
order_mul k x y h = rw (lt_z_mul k x y h, lt_z_mul k y x h)

-- `Greater` as a test
pub is_greater_lem : (x y : ℤ) → is_gt (order_of x y) ≡ lt_z y x
is_greater_lem x y = go (lt_z x y) (lt_z y x) refl refl
  where
    go : (t u : Bool) → lt_z x y ≡ t → lt_z y x ≡ u → is_gt (cond t Less (cond u Greater Equal)) ≡ u
    go true true e f = let g : ⊥ = omega zarith in absurd g
    go true false e f = refl
    go false true e f = refl
    go false false e f = refl
