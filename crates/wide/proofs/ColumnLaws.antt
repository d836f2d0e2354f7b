-- The product of two words of 64 bits by columns of 32 bits.
use Rattle.std.proofs.Common.{◌≡◌, ℕ, ◌+◌, ◌*◌, ◌/◌, ◌%◌, ◌^◌, ◌<◌, ◌≤◌, ◌∙◌, ap₂, mul-le-mul, arith}

-- the halves of a word
record Halves (n : ℕ) : Type 0 where
  upper : n / 4294967296 ≤ 4294967295
  lower : n % 4294967296 ≤ 4294967295

halves : {n : ℕ} → n < 2 ^ 64 → Halves n
halves h = record { upper = omega arith; lower = omega arith }

-- the four products of halves: each is at most 2^64 - 1 less twice 2^32 - 1, so that two halves can be added
pub record Products (u v : ℕ) : Type 0 where
  pub upper_upper : (u / 4294967296) * (v / 4294967296) ≤ 18446744065119617025
  pub upper_lower : (u / 4294967296) * (v % 4294967296) ≤ 18446744065119617025
  pub lower_upper : (u % 4294967296) * (v / 4294967296) ≤ 18446744065119617025
  pub lower_lower : (u % 4294967296) * (v % 4294967296) ≤ 18446744065119617025

pub products : (u v : ℕ) → u < 2 ^ 64 → v < 2 ^ 64 → Products u v
products u v h k =
    let a = halves h in
    let b = halves k in
    record {
      upper_upper = mul-le-mul a.upper b.upper;
      upper_lower = mul-le-mul a.upper b.lower;
      lower_upper = mul-le-mul a.lower b.upper;
      lower_lower = mul-le-mul a.lower b.lower;
    }

-- ---- the product by columns
multiply_out : (a b c d : ℕ) → (a * 4294967296 + b) * (c * 4294967296 + d) ≡ a * c * 2 ^ 64 + (a * d + b * c) * 2 ^ 32 + b * d
multiply_out a b c d = omega arith

joined : (n : ℕ) → n ≡ n / 4294967296 * 4294967296 + n % 4294967296
joined n = omega arith

columns : (u v : ℕ) → u * v ≡
    (u / 4294967296) * (v / 4294967296) * 2 ^ 64
    + ((u / 4294967296) * (v % 4294967296) + (u % 4294967296) * (v / 4294967296)) * 2 ^ 32
    + (u % 4294967296) * (v % 4294967296)
columns u v = ap₂ ◌*◌ (joined u) (joined v) ∙ multiply_out (u / 4294967296) (u % 4294967296) (v / 4294967296) (v % 4294967296)

-- ---- its two words, as the code adds them up
upper_of : (n p q r s : ℕ) → n ≡ p * 2 ^ 64 + (q + r) * 2 ^ 32 + s →
    p + (q + s / 4294967296) / 4294967296 + ((q + s / 4294967296) % 4294967296 + r) / 4294967296 ≡ n / 2 ^ 64
upper_of n p q r s e = omega arith

lower_of : (n p q r s x : ℕ) → n ≡ p * 2 ^ 64 + (q + r) * 2 ^ 32 + s →
    x ≡ (s + (q % 4294967296 + r % 4294967296) % 4294967296 * 4294967296) % 2 ^ 64 → x ≡ n % 2 ^ 64
lower_of n p q r s x e f = omega arith

module _ (u v : ℕ) where
  abbrev p11 : ℕ
  p11 = (u / 4294967296) * (v / 4294967296)

  abbrev p10 : ℕ
  p10 = (u / 4294967296) * (v % 4294967296)

  abbrev p01 : ℕ
  p01 = (u % 4294967296) * (v / 4294967296)

  abbrev p00 : ℕ
  p00 = (u % 4294967296) * (v % 4294967296)

  pub upper-word : p11 + (p10 + p00 / 4294967296) / 4294967296 + ((p10 + p00 / 4294967296) % 4294967296 + p01) / 4294967296 ≡ u * v / 2 ^ 64
  upper-word = upper_of (u * v) p11 p10 p01 p00 (columns u v)

  pub lower_word : (x : ℕ) → x ≡ (p00 + (p10 % 4294967296 + p01 % 4294967296) % 4294967296 * 4294967296) % 2 ^ 64 → x ≡ u * v % 2 ^ 64
  lower_word x e = lower_of (u * v) p11 p10 p01 p00 x (columns u v) e
