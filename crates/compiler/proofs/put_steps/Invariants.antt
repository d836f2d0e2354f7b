-- `put_steps` meets its contract: as many steps as rounds are over are written over the beginning.
use Rattle.compiler.proofs.StepsLaws.{Filling}
use Rattle.resolve.specs.Inner.Reading.{regions_at}
use Rattle.compiler.proofs.put_steps.Given as goal

abbrev pub invariant-loop : goal.invariant-loop
invariant-loop l = Filling (regions_at l.table.text.now l.table.starts l.table.gates) l.initial.rest l.written l.counter l.at l.rest
