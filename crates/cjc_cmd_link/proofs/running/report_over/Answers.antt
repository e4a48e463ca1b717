use Rattle.std.proofs.Common.{◌<◌, ◌+◌, subst, sym}
use Rattle.cjc_cmd_card.specs.Jvm.States.{objects_at_most}
use Rattle.cjc_cmd_card.specs.JvmLink.Group.{Grouped}
use Rattle.cjc_link_semantics.specs.JvmSemantics.Group.{group_linked}
use Rattle.cjc_link_semantics.specs.JvmSemantics.Machine.{start}
use Rattle.cjc_cmd_link.proofs.Answered.{starts_small}
use Rattle.cjc_cmd_link.proofs.running.report_over.Goals as goal

pub run-requires : goal.run-requires
run-requires c =
    subst (λ (k : Grouped). c.args.n + objects_at_most (start (group_linked k.group k.image) c.args.script.now) <
    4294967296) (sym c.in_ok-links.ensures)
    (starts_small c.args.packages.now c.args.image.now c.args.script.now c.args.n
    (c.has_room.ensures c.if-not-has_room.false))
