-- `word`: what is below 2^31 fits with either sign, and of 2^31 only its negative.
use mathlib.Core.Path.{sym, ◌∙◌}
use Prim.Native.Nat.{◌<◌, ◌^◌}
use native.Mathlib.Omega.{arith}
use mir.Syntax.{w32}
use mir.ValLaws.{to_z-of_z, to_z_pos}
use Rattle.text.proofs.NumbersLaws.{minus_is, minus-fits}
use Rattle.runreport.proofs.WordLaws.{fits_low, fitted-least, fitted_none}
use Rattle.runreport.proofs.reading.word.Goals as goal

pub overflow_sub-result : goal.overflow_sub-result
overflow_sub-result c = let small : c.args.n < 2 ^ 31 = omega arith in rw (minus_is _ small) (minus-fits _ small)

pub returns-then-b : goal.returns-then-b
returns-then-b c =
    let small : c.args.n < 2 ^ 31 = omega arith in
    rw (fits_low c.args.b c.args.n small, c.if-b.true, minus_is _ small, to_z-of_z w32 _ (minus-fits _ small))

pub returns-else-b : goal.returns-else-b
returns-else-b c =
    let small : c.args.n < 2 ^ 31 = omega arith in
    rw (fits_low c.args.b c.args.n small, c.if-b.false, to_z_pos w32 _ small)

pub returns-then-fits : goal.returns-then-fits
returns-then-fits c =
    sym (fitted-least c.args.b c.args.n c.if-n-lt2147483648.false (sym c.fits.ensures ∙ c.if-fits.true))

pub returns-else-fits : goal.returns-else-fits
returns-else-fits c =
    sym (fitted_none c.args.b c.args.n (sym c.fits.ensures ∙ c.if-fits.false))
