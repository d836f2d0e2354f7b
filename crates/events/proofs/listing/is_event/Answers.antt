-- `is_event`: what `all` answers, of as many fields as there are.
use Rattle.std.proofs.Common.{rules, tests, refl, ◌∙◌, get_or, []}
use Rattle.std.proofs.lemmas.Iterator.{YieldsList-from_range}
use Rattle.std.proofs.lemmas.Iterator.Search.{all_from_yields_List}
use native.Mathlib.Omega.{arith}
use Rattle.text.specs.Numbers.{is_number}
use Rattle.text.specs.Lines.{fields}
use Rattle.events.proofs.ListingLaws.{event_miscounted, event-counted}
use Rattle.events.proofs.listing.is_event.Goals as goal

pub returns-then-field_count-n : goal.returns-then-field_count-n
returns-then-field_count-n c =
    let s = c.args.line.now in
    let n = c.args.n in
    all_from_yields_List (λ k. is_number (get_or (fields s) k [])) _ _ _ c.all.ensures.ran (YieldsList-from_range 0 n n refl (omega arith))
    (λ x b q k. search (rules, tests))
    ∙ event-counted n s c.field_count.ensures c.if-field_count-n.true

pub returns-else-field_count-n : goal.returns-else-field_count-n
returns-else-field_count-n c = event_miscounted c.args.n c.args.line.now c.field_count.ensures c.if-field_count-n.false
