-- `in_any`: what the library says of the indices below the length.
use mathlib.Core.Path.{refl, ◌∙◌}
use lib.ListN.{length}
use borrow.Author.Rules.{rules}
use native.Mathlib.Nat.{sub-zero}
use Rattle.std.proofs.lemmas.Iterator.{YieldsList-from_range}
use Rattle.std.proofs.lemmas.Iterator.Search.{any_from_yields_List}
use Rattle.counter.specs.Members.{operand_in}
use Rattle.counter.proofs.RangeLaws.{any-range}
use Rattle.counter.proofs.shapes.in_any.Goals as goal

pub returns : goal.returns
returns c =
    let test = operand_in c.args.bits c.args.body.now in
    let n = length c.args.body.now in
    any_from_yields_List test _ _ _ c.any.ensures.ran (YieldsList-from_range 0 n n refl (sub-zero n)) (λ x b q k. search rules) ∙ any-range test n
