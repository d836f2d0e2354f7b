-- `run_report`: over 131,072 bytes nothing is read, else what is printed of the input.
use Rattle.runreport.proofs.RunLaws.{run_long}
use Rattle.runreport.proofs.run_report.Goals as goal

pub returns-then-input-gt131072 : goal.returns-then-input-gt131072
returns-then-input-gt131072 c =
    rw (run_long c.args.input.now c.if-input-gt131072.true) at c.put_unread.ensures
