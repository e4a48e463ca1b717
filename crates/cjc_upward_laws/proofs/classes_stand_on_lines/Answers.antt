use Rattle.cjc_upward_laws.proofs.Lines.{on_line}
use Rattle.cjc_upward_laws.proofs.classes_stand_on_lines.Goals as goal

pub returns : goal.returns
returns c = on_line
