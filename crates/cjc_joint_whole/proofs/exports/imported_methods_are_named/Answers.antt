use Rattle.cjc_joint_whole.proofs.WholeLaws.Tokened.{outside_named, shared_named}
use Rattle.cjc_joint_whole.proofs.exports.imported_methods_are_named.Goals as goal

pub returns-clause-outside : goal.returns-clause-outside
returns-clause-outside c = outside_named

pub returns-clause-shared : goal.returns-clause-shared
returns-clause-shared c = shared_named
