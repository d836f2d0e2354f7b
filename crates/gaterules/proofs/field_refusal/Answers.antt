-- `field_refusal`: by the rule of the field.
use Rattle.gates.specs.Rules.{field_refusal}
use mathlib.Core.Path.{refl}
use Rattle.gaterules.proofs.field_refusal.Goals as goal

pub returns-in-Free : goal.returns-in-Free
unfolding field_refusal
returns-in-Free c = rw (← c.rule_of.ensures, c.in-Free.is)

pub returns-in-Name : goal.returns-in-Name
unfolding field_refusal
returns-in-Name c =
    rw (
      c.unless.ensures,
      c.is_name.ensures,
      c.field-x.ensures,
      ← c.rule_of.ensures,
      c.in-Name.is,
    )

pub returns-in-Parent : goal.returns-in-Parent
unfolding field_refusal
returns-in-Parent c =
    rw (
      c.unless-in-Parent.ensures,
      c.is_parent.ensures,
      c.field-x.ensures,
      ← c.rule_of.ensures,
      c.in-Parent.is,
    )

pub returns-in-Operand : goal.returns-in-Operand
unfolding field_refusal
returns-in-Operand c =
    rw (
      c.unless-in-Operand.ensures,
      c.is_operand.ensures,
      c.field-x.ensures,
      ← c.rule_of.ensures,
      c.in-Operand.is,
    )

pub returns-in-Dimension : goal.returns-in-Dimension
unfolding field_refusal
returns-in-Dimension c =
    rw (c.unless-in-Dimension.ensures, c.dimension_passes.ensures, ← c.rule_of.ensures, c.in-Dimension.is)

pub returns-in-Coordinate : goal.returns-in-Coordinate
unfolding field_refusal
returns-in-Coordinate c =
    rw (c.number_refusal.ensures, c.field-x.ensures, ← c.rule_of.ensures, c.in-Coordinate.is)

pub returns-in-Entry : goal.returns-in-Entry
unfolding field_refusal
returns-in-Entry c =
    rw (c.number_refusal-in-Entry.ensures, c.field-x.ensures, ← c.rule_of.ensures, c.in-Entry.is)

pub returns-in-Distance : goal.returns-in-Distance
unfolding field_refusal
returns-in-Distance c =
    rw (c.number_refusal-in-Distance.ensures, c.field-x.ensures, ← c.rule_of.ensures, c.in-Distance.is)

pub returns-in-DecimalEntry : goal.returns-in-DecimalEntry
unfolding field_refusal
returns-in-DecimalEntry c =
    rw (c.decimal_refusal.ensures, c.field-x.ensures, ← c.rule_of.ensures, c.in-DecimalEntry.is) refl

pub returns-in-DecimalDistance : goal.returns-in-DecimalDistance
unfolding field_refusal
returns-in-DecimalDistance c =
    rw (c.decimal_refusal-in-DecimalDistance.ensures, c.field-x.ensures, ← c.rule_of.ensures, c.in-DecimalDistance.is) refl

pub returns-in-Min : goal.returns-in-Min
unfolding field_refusal
returns-in-Min c =
    rw (c.optional_refusal.ensures, c.field-x.ensures, ← c.rule_of.ensures, c.in-Min.is)

pub returns-in-Max : goal.returns-in-Max
unfolding field_refusal
returns-in-Max c =
    rw (
      c.least_of.ensures,
      c.unless-in-Max.ensures,
      c.rises.ensures,
      c.optional_refusal-in-Max.ensures,
      c.field-x.ensures,
      c.field-y.ensures,
      c.saturating_sub.ensures,
      ← c.rule_of.ensures,
      c.in-Max.is,
    )

pub returns-in-Value : goal.returns-in-Value
unfolding field_refusal
returns-in-Value c =
    rw (c.number_refusal-in-Value.ensures, c.field-x.ensures, ← c.rule_of.ensures, c.in-Value.is)

pub returns-in-Rising : goal.returns-in-Rising
unfolding field_refusal
returns-in-Rising c =
    rw (
      c.least_of-in-Rising.ensures,
      c.unless-in-Rising.ensures,
      c.rises-in-Rising.ensures,
      c.number_refusal-in-Rising.ensures,
      c.field-x.ensures,
      c.field-y.ensures,
      c.saturating_sub.ensures,
      ← c.rule_of.ensures,
      c.in-Rising.is,
    )

pub returns-in-Representative : goal.returns-in-Representative
unfolding field_refusal
returns-in-Representative c =
    rw (c.optional_refusal-in-Representative.ensures, c.field-x.ensures, ← c.rule_of.ensures, c.in-Representative.is)
