use Rattle.std.proofs.Common.{◌∙◌, ◌++◌, List, ap}
use Rattle.cjc_verify.specs.Offsets.{ats_by}
use Rattle.cjc_verify.specs.declared.infos.offsets.MethodAt.{MethodAt}
use Rattle.cjc_verify.proofs.InfosLaws.Ats.{ats_are}
use Rattle.cjc_verify.proofs.infos.offsets.method_ats.Goals as goal

pub returns : goal.returns
returns c = λ p is are f.
    let files = c.args.world.now in
    let order = c.args.order.now in
    let classes = c.args.classes.now in
    ats_are p files is classes are order c.requires c.put_classes.new.row (c.in_ok-put_classes.ensures
    ∙ ap (λ (row : List MethodAt). row ++ ats_by files order classes) c.new-row.ensures) f
