-- `is_word`: the digits may be cut where the number does not fit.
use Rattle.runreport.proofs.WordLaws.{word-tested}
use Rattle.runreport.proofs.reading.is_word.Goals as goal

pub returns : goal.returns
returns c =
    word-tested c.args.s.now c.is_number.ensures c.negative.ensures c.unsigned.ensures
    c.magnitude.ensures c.fits.ensures
