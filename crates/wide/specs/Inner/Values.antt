-- The integer that a `Wide` stands for, the integer that a result past 128 bits wraps to, and how two integers compare.
use Rattle.std.specs.Prelude.{ℕ, suc, ◌+◌, ◌-◌, ◌*◌, ◌%◌, ◌^◌, cond, ℤ, pos, negsuc, int_lt}
use Rattle.std.specs.Int.{w128}
use Rattle.std.proofs.Common.{to_z}
use Rattle.wide.specs.declared.Wide.{Wide}
use Rattle.std.specs.declared.cmp.Ordering.{Ordering}
use Rattle.std.specs.declared.cmp.Ordering.TheVariants.{Less, Equal, Greater}

-- the 128 bits as a number from 0 on
abbrev pub bits : Wide → ℕ
bits w = w.high * 2 ^ 64 + w.low

-- the integer that they are in two's complement: from 2^127 on, the number less 2^128
unfoldable pub value : Wide → ℤ
value w = to_z w128 (bits w)

-- the number from 0 below 2^128 that differs from z by a multiple of 2^128
abbrev pub residue : ℤ → ℕ
residue (pos n) = n % 2 ^ 128
residue (negsuc n) = 2 ^ 128 - suc (n % 2 ^ 128)

-- the number from -2^127 below 2^127 that differs from z by a multiple of 2^128
unfoldable pub wrapped : ℤ → ℤ
wrapped z = to_z w128 (residue z)

-- how x compares with y
abbrev pub order_of : ℤ → ℤ → Ordering
order_of x y = cond (int_lt x y) Less (cond (int_lt y x) Greater Equal)
