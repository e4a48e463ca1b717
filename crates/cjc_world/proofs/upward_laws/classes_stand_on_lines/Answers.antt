use Rattle.cjc_world.proofs.UpwardLaws.Lines.{on_line}
use Rattle.cjc_world.proofs.upward_laws.classes_stand_on_lines.Goals as goal

pub returns : goal.returns
returns c = on_line
