-- Tables to which none of refusals 1 to 16 applies.
use Rattle.std.specs.Prelude.{◌≡◌, List, ℕ}
use Rattle.plans.specs.Refusals.{Verdict}
use Rattle.tablecheck.specs.Inner.TextVerdict.{text_verdict}

-- none of 1 to 16 applies
abbrev pub Unrefused : List ℕ → Type 0
Unrefused text = (v : Verdict) → v ≡ text_verdict text v
