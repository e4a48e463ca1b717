use Rattle.cjc_cmd_link.proofs.Joined.{all_spelt, are_files, classes_read, codes_read, exports_read, one_each}
use Rattle.cjc_cmd_link.proofs.joint.joint_trees.Goals as goal

pub trees_of-requires-clause-count : goal.trees_of-requires-clause-count
trees_of-requires-clause-count c = one_each c.args.members.now c.requires.made c.args.lines.now c.args.files.now
    c.requires.lines c.requires.files

pub trees_of-requires-clause-files : goal.trees_of-requires-clause-files
trees_of-requires-clause-files c = are_files c.args.members.now c.requires.made c.args.lines.now c.args.files.now
    c.requires.lines c.requires.files

pub trees_of-requires-clause-spelt : goal.trees_of-requires-clause-spelt
trees_of-requires-clause-spelt c = all_spelt c.args.members.now c.requires.made c.args.lines.now c.args.files.now
    c.requires.lines c.requires.files

pub returns-clause-classes : goal.returns-clause-classes
returns-clause-classes c = classes_read c.args.members.now c.requires.made c.args.lines.now c.args.files.now
    c.requires.lines c.requires.files c.trees_of.result c.trees_of.ensures

pub returns-clause-exports : goal.returns-clause-exports
returns-clause-exports c = exports_read c.args.members.now c.requires.made c.args.lines.now c.args.files.now
    c.requires.lines c.requires.files c.trees_of.result c.trees_of.ensures

pub returns-clause-codes : goal.returns-clause-codes
returns-clause-codes c = codes_read c.args.members.now c.requires.made c.args.lines.now c.args.files.now
    c.requires.lines c.requires.files c.trees_of.result c.trees_of.ensures
