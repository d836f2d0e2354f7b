-- `all_different`.
use Rattle.std.proofs.Common.{ℕ, [], ◌∙◌, refl, get_or, rules}
use Rattle.std.proofs.lemmas.Iterator.{YieldsList-from_range}
use Rattle.std.proofs.lemmas.Iterator.Search.{all_from_yields_List}
use borrow.Author.Tests.{tests}
use lib.Dec.{eqb}
use Rattle.text.specs.Lines.{fields}
use Rattle.text.specs.Inner.Places.{find_field}
use Rattle.heads.proofs.HeadLaws.{different_in}
use Rattle.heads.proofs.all_different.Goals as goal

pub returns : goal.returns
returns c =
    let fs = fields c.args.head.now in
    all_from_yields_List (λ (k : ℕ). eqb (find_field fs 1 (get_or fs k [])) k) _ _ _ c.all.ensures.ran
    (YieldsList-from_range 1 c.field_count.result _ (cc) refl)
    (λ x b q k. search (rules, tests)) ∙ different_in c.args.head.now c.field_count.ensures
