-- `read_number`: the cut digits with their sign are the clamped value.
use Rattle.std.proofs.Common.{sym, ◌∙◌, arith}
use mir.Syntax.{w32}
use mir.ValLaws.{to_z-of_z}
use Rattle.text.specs.Numbers.{number_value}
use Rattle.text.proofs.ClampLaws.{min-min}
use Rattle.text.proofs.NumbersLaws.{clamp-signed, read-bad, read-value}
use Rattle.text.proofs.numbers.read_number.Goals as goal

pub returns-then-is_number : goal.returns-then-is_number
unfolding number_value
returns-then-is_number c =
    rw (
      to_z-of_z w32 _ (record { sfits = c.signed.type_inv }),
      c.signed.ensures,
      c.digits_value.ensures,
      min-min _ 1073741824 2147483647 (omega arith),
      c.unsigned.ensures,
      c.negative.ensures,
      read-value _ (sym c.is_number.ensures ∙ c.if-is_number.true),
      clamp-signed,
    )

pub returns-else-is_number : goal.returns-else-is_number
returns-else-is_number c = sym (read-bad _ (sym c.is_number.ensures ∙ c.if-is_number.false))
