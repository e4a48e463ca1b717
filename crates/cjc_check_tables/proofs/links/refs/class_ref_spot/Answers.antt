use Rattle.std.proofs.Common.{◌∙◌}
use Rattle.cjc_check_rules.proofs.Firsts.{joined}
use Rattle.cjc_check_tables.proofs.links.refs.class_ref_spot.Goals as goal

pub returns : goal.returns
returns c =
    let two = c.earlier.ensures ∙ joined _ _ _ _ c.pool_refs-pool.ensures c.interface_refs-interfaces.ensures in
    let three = c.earlier-2.ensures ∙ joined _ _ _ _ two c.class_refs-classes.ensures in
    let four = c.earlier-3.ensures ∙ joined _ _ _ _ three c.described_refs-described.ensures in
    c.earlier-4.ensures ∙ joined _ _ _ _ four c.type_refs-types.ensures
