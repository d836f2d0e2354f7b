-- `unsigned_thousandths`: wholes that are cut at 2^30 lie beyond 2^31 − 1 in thousandths.
use Rattle.decimals.proofs.DecimalLaws.{thousandths-cut}
use Rattle.decimals.proofs.unsigned_thousandths.Goals as goal

pub returns : goal.returns
returns c =
    rw (
      c.min.ensures,
      c.from-decimals.ensures,
      c.three_decimals.ensures,
      c.after_point.ensures,
      c.from-wholes.ensures,
      c.digits_value.ensures,
      c.before_point.ensures,
      thousandths-cut,
    )
