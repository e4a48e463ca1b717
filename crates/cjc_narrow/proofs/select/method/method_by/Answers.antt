use Rattle.cjc_narrow.specs.Pairs.Roles.{with_roles}
use Rattle.cjc_narrow.specs.Select.Working.Names.{resolution_of}
use Rattle.cjc_narrow.proofs.PairsLaws.Roles.{are_roles}
use Rattle.cjc_narrow.proofs.SelectLaws.Whole.{assembled}
use Rattle.cjc_narrow.proofs.select.method.method_by.Goals as goal

pub returns : goal.returns
returns c =
    let r = resolution_of c.args.names.now in
    let insns = c.args.insns.now in
    let roles = c.args.roles.now in
    assembled r c.args.code.now c.args.nargs insns c.args.reaches.now roles _ _ c.requires.ascending c.requires.each
    c.requires.roles
    (c.in_ok-places.ensures (with_roles r insns roles) (are_roles r insns roles c.requires.ascending c.requires.roles))
    c.in_ok-narrow.ensures
