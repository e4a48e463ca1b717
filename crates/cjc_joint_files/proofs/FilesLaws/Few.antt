-- Converted packages have at most 1,024 class files each, as many as a list names; so packages of a group have as many
-- together as a group may have.
use Rattle.std.proofs.Common.{◌≡◌, ◌≤◌, ◌*◌, suc, refl, ap, subst, arith, List, [], ◌∷◌, length}
use Rattle.std.proofs.lemmas.List.{length-append}
use Rattle.cjc_bytes.specs.declared.settings.FileLine.{FileLine}
use Rattle.cjc_components.specs.Package.{Package}
use Rattle.cjc_joint_proof.specs.JointPackages.{files_together}
use Rattle.cjc_jvm_semantics.specs.Group.{joint_classes}
use Rattle.cjc_shape_proof.proofs.WrittenLaws.Files.{files_sound}
use Rattle.cjc_shape_proof.proofs.WrittenLaws.FittingLaws.Listed.{spelt}
use Rattle.cjc_token_proof.specs.ClassOrder.Classes.Numbers.{class_count}
use Rattle.cjc_world.specs.Files.{Files}
use Rattle.cjc_joint_files.specs.Written.{IsWritten}
use Rattle.cjc_joint_files.proofs.FilesLaws.Whole.{AllWritten}

few_classes : (p : Package) → IsWritten p → (let f = p.files in length f.classes ≤ 1024)
few_classes p w =
    let c = w.converted in
    let list = w.list in
    let laid = c.is_package in
    let its = laid.spelt in
    let sound = files_sound w.list w.files w.judged p c in
    let lines : (let f = p.files in f.lines) ≡ list.lines = ap (λ (f : Files). f.lines) its.world_is in
    let few = subst (λ (ls : List FileLine). (let f = p.files in length f.classes) ≤ class_count ls) lines sound.classes
    in
    let named = spelt w.list c.read in
    let within = named.within in
    let all = within.classes in
    omega (arith, few, all)

each_few : (packages : List Package) → AllWritten packages → length (joint_classes (files_together packages))
    ≤ 1024 * length packages
each_few [] each = omega arith
each_few (p ∷ packages) each =
    let one = few_classes p (each 0 p refl) in
    let rest = each_few packages (λ q x at. each (suc q) x at) in
    let f = p.files in
    let long = length-append f.classes (joint_classes (files_together packages)) in
    omega (arith, one, rest, long)

-- of sixteen packages no more than a group may have
pub few_together : (packages : List Package) → AllWritten packages → length packages ≤ 16
    → length (joint_classes (files_together packages)) ≤ 16384
few_together packages each small = let all = each_few packages each in omega (arith, all, small)
