use Rattle.std.proofs.Common.{ℕ, ap, sym, ◌∙◌}
use Rattle.std.specs.Prelude.{nat_le}
use Rattle.cjc_capread.specs.declared.tree.ClassRef.{ClassRef}
use Rattle.cjc_check_index.specs.Lookup.Parts.{complete_of}
use Rattle.cjc_check_rules.specs.Tables.{is_long_enough}
use Rattle.cjc_check_tables.proofs.MembersLaws.NeedsOf.{long_enough}
use Rattle.cjc_check_tables.proofs.members.members.Members.is_long_enough.Goals as goal

pub returns-in-Inside : goal.returns-in-Inside
returns-in-Inside c =
    let names = c.args.self.now.methods.now.names.now in
    let whole = complete_of names.parts.now in
    ap (λ (n : ℕ). nat_le n c.args.count) (c.need_in.ensures ∙ c.requires.needs c.in-Inside.offset)
    ∙ sym (long_enough names.parts.now.descriptor.now.classes c.in-Inside.offset c.args.count)
    ∙ ap (λ (r : ClassRef). is_long_enough whole names.exports.now r c.args.count) (sym c.in-Inside.is)
