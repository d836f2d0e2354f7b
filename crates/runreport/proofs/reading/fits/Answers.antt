-- `fits`: below 2^31, or 2^31 with a `-`.
use Rattle.runreport.proofs.WordLaws.{fits-is}
use Rattle.runreport.proofs.reading.fits.Goals as goal

pub returns : goal.returns
returns c = fits-is c.args.b c.args.n
