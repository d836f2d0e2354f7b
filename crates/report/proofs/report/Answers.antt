-- `report`: over 65,536 bytes refusal 1, else what is printed of the input.
use Rattle.report.proofs.InputLaws.{report_long}
use Rattle.report.proofs.report.Goals as goal

pub returns-then-input-gt65536 : goal.returns-then-input-gt65536
returns-then-input-gt65536 c = rw (report_long c.args.input.now c.if-input-gt65536.true) c.put_refused.ensures
