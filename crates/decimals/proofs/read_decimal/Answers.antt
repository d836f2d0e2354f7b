-- `read_decimal`: the cut thousandths with their sign are the clamped value.
use mathlib.Core.Path.{sym, ◌∙◌}
use native.Mathlib.Omega.{arith}
use mir.Syntax.{w32}
use mir.ValLaws.{to_z-of_z}
use Rattle.decimals.specs.Decimals.{thousandths}
use Rattle.text.proofs.ClampLaws.{clamp_to-signed, min-min}
use Rattle.decimals.proofs.DecimalLaws.{decimal-bad, decimal-value}
use Rattle.decimals.proofs.read_decimal.Goals as goal

pub returns-then-is_decimal : goal.returns-then-is_decimal
unfolding thousandths
returns-then-is_decimal c =
    rw (
      to_z-of_z w32 _ (record { sfits = c.signed.type_inv }),
      c.signed.ensures,
      c.unsigned_thousandths.ensures,
      min-min _ 2147483647 2147483647 (omega arith),
      c.unsigned.ensures,
      c.negative.ensures,
      decimal-value _ (sym c.is_decimal.ensures ∙ c.if-is_decimal.true),
      clamp_to-signed 2147483647 (omega arith),
    )

pub returns-else-is_decimal : goal.returns-else-is_decimal
returns-else-is_decimal c = sym (decimal-bad _ (sym c.is_decimal.ensures ∙ c.if-is_decimal.false))
