use Rattle.cjc_joint_whole.proofs.WholeLaws.Imported.{are_imports}
use Rattle.cjc_joint_whole.proofs.tokens.linked_imports_say_what_is_so.Goals as goal

pub returns : goal.returns
returns c = are_imports
