use Rattle.std.proofs.Common.{◌∙◌}
use Rattle.cjc_check_tables.proofs.LinksLaws.Leaving.{leaves_all}
use Rattle.cjc_check_tables.proofs.links.tables.leaves_upwards.Goals as goal

pub returns : goal.returns
returns c = c.leaves.ensures ∙ leaves_all c.args.tables.now.methods.now.names.now.parts.now.class.now
    c.args.tables.now.leaving.now c.args.class c.requires.all
