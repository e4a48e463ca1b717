use Rattle.cjc_shape_proof.proofs.WrittenLaws.Files.{files_sound, own_unbroken}
use Rattle.cjc_shape_proof.proofs.WrittenLaws.Worlds.{own_ordered}
use Rattle.cjc_shape_proof.specs.LowerJudge.Rules.{settings_of}
use Rattle.cjc_joint_whole.proofs.WholeLaws.VirtualEntries.{meant_are_listed, virtual_are_own}
use Rattle.cjc_joint_whole.proofs.exports.converted_packages_list_virtual_methods.Goals as goal

pub returns-clause-own : goal.returns-clause-own
returns-clause-own c = λ list files judged p is. (let u = own_unbroken list files judged p is in
    let k = c.converted_classes_keep_rules.ensures.keeps list files judged p is in
    virtual_are_own list.name p judged.codes (settings_of list) (files_sound list files judged p is) u.checks (own_ordered
    list files judged p is) k.rules)

pub returns-clause-all : goal.returns-clause-all
returns-clause-all c = λ list files judged p is. (let u = own_unbroken list files judged p is in
    let k = c.converted_classes_keep_rules.ensures.keeps list files judged p is in
    meant_are_listed list.name p judged.codes (settings_of list) (files_sound list files judged p is) u.checks
    (own_ordered list files judged p is) k.rules)
