use Rattle.std.proofs.Common.{◌∙◌, length}
use Rattle.cjc_check_tables.proofs.MembersLaws.Above.{all_answers}
use Rattle.cjc_check_tables.proofs.members.members.Members.has_virtual.Goals as goal

pub returns : goal.returns
returns c =
    let names = c.args.self.now.methods.now.names.now in
    c.has_among.ensures ∙ all_answers names.parts.now.class.now names.exports.now (length c.args.self.now.above.now)
    c.args.class c.args.token c.requires.all
