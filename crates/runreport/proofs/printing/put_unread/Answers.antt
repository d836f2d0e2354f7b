-- `put_unread`: the line of the word `unread`.
use Rattle.runreport.proofs.PrintLaws.{unread_written}
use Rattle.runreport.proofs.printing.put_unread.Goals as goal

pub returns : goal.returns
returns c =
    unread_written c.args.line c.args.out.now c.put_count_from.ensures
