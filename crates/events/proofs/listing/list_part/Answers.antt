-- `list_part`: what stands behind the first LF, or all.
use mathlib.Core.Path.{◌≡◌, ◌∙◌}
use mathlib.Core.Bool.{Bool, true, false}
use mathlib.Core.List.{List}
use Prim.Native.Nat.{ℕ, ◌+◌}
use native.Mathlib.Omega.{arith}
use lib.ListN.{drop}
use Rattle.text.specs.Inner.Places.{find_from}
use Rattle.text.proofs.LinesLaws.{found_inside}
use Rattle.events.specs.Listing.{list_part}
use Rattle.events.proofs.AnswerLaws.{find_first}
use Rattle.events.proofs.listing.list_part.Goals as goal

behind-first : (part : List ℕ) (headed : Bool) → headed ≡ true → {e : ℕ} → e ≡ find_from part 0 10 → drop (e + 1) part ≡ list_part headed part
unfolding list_part
behind-first part headed h f = rw (f, h, find_first part 10)

all_lines : (part : List ℕ) (headed : Bool) → headed ≡ false → part ≡ list_part headed part
unfolding list_part
all_lines part headed h = rw h

pub overflow_add-find : goal.overflow_add-find
overflow_add-find c = omega (arith, found_inside c.args.part.now 0 10 c.find.ensures (omega arith))

pub returns-then-headed : goal.returns-then-headed
returns-then-headed c =
    c.rest_from.ensures ∙ behind-first c.args.part.now c.args.headed c.if-headed.true c.find.ensures

pub returns-else-headed : goal.returns-else-headed
returns-else-headed c = all_lines c.args.part.now c.args.headed c.if-headed.false
