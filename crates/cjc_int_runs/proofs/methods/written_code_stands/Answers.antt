use Rattle.cjc_int_runs.proofs.PlacedCode.{prologue_stands, code_stands, next_stands}
use Rattle.cjc_int_runs.proofs.methods.written_code_stands.Goals as goal

pub returns-clause-prologue : goal.returns-clause-prologue
returns-clause-prologue c = prologue_stands

pub returns-clause-each : goal.returns-clause-each
returns-clause-each c = code_stands

pub returns-clause-next : goal.returns-clause-next
returns-clause-next c = next_stands
