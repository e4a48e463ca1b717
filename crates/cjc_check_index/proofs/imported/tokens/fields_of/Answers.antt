use Rattle.std.proofs.Common.{◌∙◌, false}
use Rattle.cjc_check_rules.specs.Members as members
use Rattle.cjc_check_index.specs.Imported.Working.Rows.{lists_field}
use Rattle.cjc_check_index.proofs.ImportedLaws.Answers.{each_class_same, fields_are}
use Rattle.cjc_check_index.proofs.imported.tokens.fields_of.Goals as goal

pub returns : goal.returns
returns c = c.in_ok-rows.ensures c.args.classes.now members.lists_field c.requires (c.items.ensures
    ∙ c.in_ok-tables.ensures ∙ each_class_same (lists_field false) members.lists_field fields_are c.args.classes.now)
