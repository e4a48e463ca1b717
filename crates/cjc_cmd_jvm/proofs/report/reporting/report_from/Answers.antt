use Rattle.std.proofs.Common.{◌≡◌, ◌<◌, ◌+◌, subst, sym}
use Rattle.cjc_jvm_link.specs.JvmSemantics.ByName.{linked}
use Rattle.cjc_jvm_link.specs.JvmSemantics.Machine.{start}
use Rattle.cjc_jvm_link.specs.Linkage.{Linkage}
use Rattle.cjc_jvm.specs.States.{objects_at_most}
use Rattle.cjc_cmd_jvm.proofs.ReportLaws.Free.{starts_small}
use Rattle.cjc_cmd_jvm.proofs.report.reporting.report_from.Goals as goal

pub run-requires : goal.run-requires
run-requires c =
    subst (λ (k : Linkage). c.args.n + objects_at_most (start (linked k.files k.image) c.args.ready.now.script) <
    4294967296) (sym c.in_ok-links.ensures)
    (starts_small c.args.ready.now.judged.world c.args.image.now c.args.ready.now.script c.args.n
    (c.has_room.ensures c.if-not-has_room.false))
