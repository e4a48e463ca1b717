use Rattle.std.proofs.Common.{◌∙◌}
use Rattle.cjc_check_rules.specs.ExportFile.Supers.{lists_virtual}
use Rattle.cjc_check_index.proofs.imported.tokens.virtuals_of.Goals as goal

pub returns : goal.returns
returns c = c.in_ok-rows.ensures c.args.classes.now lists_virtual c.requires (c.items.ensures ∙ c.in_ok-tables.ensures)
