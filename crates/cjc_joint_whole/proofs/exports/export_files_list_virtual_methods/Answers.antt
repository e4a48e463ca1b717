use Rattle.cjc_joint_whole.proofs.WholeLaws.VirtualEntries.{meant_are_listed, virtual_are_own}
use Rattle.cjc_joint_whole.proofs.exports.export_files_list_virtual_methods.Goals as goal

pub returns-clause-own : goal.returns-clause-own
returns-clause-own c = virtual_are_own

pub returns-clause-all : goal.returns-clause-all
returns-clause-all c = meant_are_listed
