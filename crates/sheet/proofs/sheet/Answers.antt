-- `sheet`: over 65,536 bytes refusal 1, else the sheet of the input.
use Rattle.sheet.proofs.InputLaws.{sheet_long}
use Rattle.sheet.proofs.sheet.Goals as goal

pub returns-then-input-gt65536 : goal.returns-then-input-gt65536
returns-then-input-gt65536 c =
    rw (sheet_long c.args.input.now c.if-input-gt65536.true) c.put_refused.ensures
