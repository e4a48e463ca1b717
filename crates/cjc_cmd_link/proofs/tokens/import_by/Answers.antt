use Rattle.cjc_cmd_link.proofs.Numbers.{file_import, group_import}
use Rattle.cjc_cmd_link.proofs.tokens.import_by.Goals as goal

pub returns-in-Some : goal.returns-in-Some
returns-in-Some c =
    group_import c.args.packages.now c.args.outside.now c.args.tree.now _ c.in-Some.number c.of_group.result
    c.items-name.ensures c.in-Some.ensures c.of_group.ensures

pub returns-in-None : goal.returns-in-None
returns-in-None c =
    file_import c.args.packages.now c.args.outside.now c.args.tree.now _ c.tree_number-number.result c.of_file.result
    c.items-name.ensures c.in-None.ensures c.tree_number-number.ensures c.of_file.ensures
