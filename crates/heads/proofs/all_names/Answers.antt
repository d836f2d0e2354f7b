-- `all_names`.
use Rattle.std.proofs.Common.{ℕ, [], ◌∙◌, refl, get_or, rules}
use Rattle.std.proofs.lemmas.Iterator.{YieldsList-from_range}
use Rattle.std.proofs.lemmas.Iterator.Search.{all_from_yields_List}
use borrow.Author.Tests.{tests}
use Rattle.text.specs.Lines.{fields}
use Rattle.text.specs.Names.{is_name}
use Rattle.heads.proofs.HeadLaws.{names_in}
use Rattle.heads.proofs.all_names.Goals as goal

pub returns : goal.returns
returns c =
    let fs = fields c.args.head.now in
    all_from_yields_List (λ (k : ℕ). is_name (get_or fs k [])) _ _ _ c.all.ensures.ran (YieldsList-from_range 1 c.field_count.result _ (cc) refl)
    (λ x b q k. search (rules, tests)) ∙ names_in c.args.head.now c.field_count.ensures
