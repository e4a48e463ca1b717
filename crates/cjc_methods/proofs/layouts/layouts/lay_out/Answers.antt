use Rattle.std.proofs.Common.{subst, List}
use Rattle.cjc_pool.specs.NCode.declared.narrow.NMethod.{NMethod}
use Rattle.cjc_methods.specs.Layouts.Working.Tries.{AreAll}
use Rattle.cjc_methods.proofs.LayoutsLaws.Kept.{are_of}
use Rattle.cjc_methods.proofs.layouts.layouts.lay_out.Goals as goal

pub returns-clause-laid : goal.returns-clause-laid
returns-clause-laid c =
    let files = c.args.world.now in
    are_of files c.args.members.now c.args.codes c.lay_tested.new.laid
    (subst (λ (cs : List NMethod). AreAll files c.args.members.now cs c.lay_tested.new.laid) c.items.ensures
    c.in_ok-lay_tested.ensures.laid)
