-- `is_word_line`: what `all` answers of the parts that `split` gives, which are the fields.
use Rattle.std.proofs.Common.{rules, tests, eqb, sym, ap, ◌∙◌}
use Rattle.std.specs.List.{list_all}
use Rattle.std.proofs.lemmas.Iterator.Search.{all_from_yields_List}
use Rattle.std.proofs.lemmas.Iterator.Splits.{YieldsList-from_slice_split}
use Rattle.text.specs.Lines.{fields}
use Rattle.text.proofs.LibraryLaws.{every_is, fields_is}
use Rattle.runreport.specs.PlanReading.{is_word, is_word_line}
use Rattle.runreport.proofs.reading.is_word_line.Goals as goal

pub returns : goal.returns
unfolding is_word_line
returns c =
    let s = c.args.line.now in
    let split = c.split.ensures in
    all_from_yields_List is_word _ _ _ c.all.ensures.ran
    (YieldsList-from_slice_split _ (λ x. eqb x 9) s split.rest split.done split.closure (λ x b q k. search (rules, tests)))
    (λ x b q k. search (rules, tests))
    ∙ sym (every_is is_word (fields s) ∙ ap (list_all is_word) (fields_is s))
