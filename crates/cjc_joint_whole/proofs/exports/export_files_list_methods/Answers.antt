use Rattle.cjc_joint_whole.proofs.WholeLaws.Listed.{exports_method, lists_methods}
use Rattle.cjc_joint_whole.proofs.exports.export_files_list_methods.Goals as goal

pub returns-clause-lists : goal.returns-clause-lists
returns-clause-lists c = lists_methods

pub returns-clause-exports : goal.returns-clause-exports
returns-clause-exports c = exports_method
