-- `put_number`: the digits of x / 10, and the last digit; x falls.
use Rattle.text.proofs.output.+put_number.Given as goal

abbrev pub decreases-put_number : goal.decreases-put_number
decreases-put_number l = l.x
