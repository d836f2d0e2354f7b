-- `main`: a report fits the 4,096 bytes.
use Rattle.std.proofs.Common.{arith}
use Rattle.runreport.proofs.RunTheorems.{run_fits}
use Rattle.gaterun.proofs.main.Goals as goal

pub print_report-requires-clause-fits : goal.print_report-requires-clause-fits
print_report-requires-clause-fits c x y n z writes = omega (arith, writes.0, run_fits x.now)
