use Rattle.std.proofs.Common.{◌∙◌}
use Rattle.cjc_verify.proofs.DescribedLaws.Entries.{declared_desc, declared_none, own_below}
use Rattle.cjc_verify.proofs.described.named.declared_method_desc.Goals as goal

pub added-requires : goal.added-requires
added-requires c = own_below c.args.world.now c.args.number c.in-Some.class.now c.in-Some.ensures

pub returns-in-Some : goal.returns-in-Some
returns-in-Some c = declared_desc c.args.world.now c.args.number c.args.member c.in-Some.class.now
    c.items-added.result.now c.member_desc.result.now c.in-Some.ensures (c.items-added.ensures ∙ c.added.ensures)
    c.member_desc.ensures

pub returns-in-None : goal.returns-in-None
returns-in-None c = declared_none c.args.world.now c.args.number c.args.member c.in-None.ensures
