use Rattle.std.proofs.Common.{◌∙◌}
use Rattle.cjc_check_rules.proofs.Firsts.{joined}
use Rattle.cjc_check_tables.proofs.links.supers.super_spot.Goals as goal

pub returns : goal.returns
returns c =
    let two = c.earlier.ensures ∙ joined _ _ _ _ c.interface_supers-interfaces.ensures c.class_supers-classes.ensures in
    c.earlier-2.ensures ∙ joined _ _ _ _ two c.described_supers-described.ensures
