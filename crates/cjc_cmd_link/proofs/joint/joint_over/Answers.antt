use Rattle.std.proofs.Common.{◌∙◌, ap, sym}
use Rattle.std.specs.List.{flat_map}
use Rattle.cjc_link_semantics.specs.Bytecode.PackageCodes.{all_codes}
use Rattle.cjc_link_semantics.specs.JvmSemantics.Group.{joint_classes}
use Rattle.cjc_group.specs.World.Files.{Files}
use Rattle.cjc_cmd_link.proofs.Joined.{joint_made}
use Rattle.cjc_cmd_link.specs.Working.{worlds_of}
use Rattle.cjc_cmd_link.proofs.joint.joint_over.Goals as goal

pub joint_world-requires-clause-classes : goal.joint_world-requires-clause-classes
joint_world-requires-clause-classes c = c.requires.classes
    ∙ ap joint_classes (sym (c.items.ensures ∙ c.in_ok-packages.ensures))

pub joint_world-requires-clause-exports : goal.joint_world-requires-clause-exports
joint_world-requires-clause-exports c = c.requires.exports
    ∙ ap (flat_map (λ (p : Files). p.exports)) (sym (c.items.ensures ∙ c.in_ok-packages.ensures))

pub returns-in-Some : goal.returns-in-Some
returns-in-Some c =
    let world = rw c.in-Some.is at c.in_ok-world.ensures in
    joint_made (worlds_of c.args.members.now) _ _ (c.items.ensures ∙ c.in_ok-packages.ensures) world c.acyclic.ensures
    (c.requires.codes ∙ ap all_codes c.requires.classes)
