use Rattle.std.proofs.Common.{◌≡◌, ◌∙◌, List, IfOk, ap, subst, sym}
use Rattle.cjc_group.specs.World.Files.{Files}
use Rattle.cjc_group.specs.World.declared.image.StaticImage.{StaticImage}
use Rattle.cjc_link_semantics.specs.JvmSemantics.Group.{group_linked, joint_image}
use Rattle.cjc_link_semantics.specs.JvmSemantics.Machine.{run as run_by_name}
use Rattle.cjc_cmd_link.specs.Working.{IsJoint, worlds_of}
use Rattle.cjc_cmd_link.proofs.running.names_report.Goals as goal

pub report_over-requires : goal.report_over-requires
report_over-requires c =
    let group = c.args.group.now in
    let worlds : worlds_of group.members ≡ c.items-3.result.now = sym (c.items-3.ensures ∙ c.in_ok-packages.ensures
    ∙ ap worlds_of c.items.ensures) in
    subst (λ (ws : List Files). IsJoint ws c.args.joint.now) worlds c.requires

pub returns : goal.returns
returns c =
    let group = c.args.group.now in
    let worlds = c.items-3.ensures ∙ c.in_ok-packages.ensures ∙ ap worlds_of c.items.ensures in
    let image = c.in_ok-image.ensures ∙ ap joint_image c.items-2.ensures in
    subst (λ (ws : List Files). IfOk c.report_over.result (λ report. report ≡ run_by_name (group_linked ws
    (joint_image group.images)) group.script c.args.n)) worlds
    (subst (λ (i : StaticImage). IfOk c.report_over.result (λ report. report ≡ run_by_name
    (group_linked c.items-3.result.now i) group.script c.args.n)) image c.report_over.ensures)
