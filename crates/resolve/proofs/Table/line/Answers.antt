-- `Table::line` meets its contract.
use Rattle.std.proofs.Common.{◌≡◌, ◌+◌, sym, ◌∙◌, length, get_or, rules, arith}
use lib.ListN.{get_or-eq_default}
use Rattle.resolve.specs.Inner.Reading.{line_at}
use Rattle.resolve.proofs.Table.line.Goals as goal
use Rattle.resolve.proofs.Table.line.Goals.{then-i-lt65, else-i-lt65}

pub returns : goal.returns
unfolding line_at
returns c =
    let starts = c.args.self.now.starts in
    let long : length starts ≡ 66 = search rules in
    let start : c.if-i-lt65.start ≡ get_or starts (c.args.i + 1) 0 =
    elim c.if-i-lt65.branch [
      | then-i-lt65 w ↦ w.start-is
      | else-i-lt65 w ↦ let past = w.if-i-lt65.false in w.start-is ∙ sym (get_or-eq_default starts 0 (omega arith))
    ] in
    c.line_from.ensures ∙ rw start
