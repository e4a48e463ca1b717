-- Whole runs of several packages by name, and of their narrow code by either machine.
use Rattle.std.proofs.Common.{◌≡◌, ap, subst, ◌∙◌, List}
use Rattle.cjc_script.specs.declared.script.Script.{Script}
use Rattle.cjc_card_semantics.specs.Bytecode.Runs.{Agree}
use Rattle.cjc_world.specs.Files.{Files}
use Rattle.cjc_world.specs.declared.image.StaticImage.{StaticImage}
use Rattle.cjc_jvm_semantics.specs.Linked.{Method}
use Rattle.cjc_jvm_semantics.specs.Group.{group_linked, joint_image, run_group}
use Rattle.cjc_narrow.specs.Rows.Package.{tree_of}
use Rattle.cjc_narrow.specs.Rows.Resolved.{argument_words}
use Rattle.cjc_narrow_proof.specs.Runs.Tables.{Tables, body_in, paired_in}
use Rattle.cjc_narrow_proof.proofs.SelectionLaws.Whole.{runs_agree}
use Rattle.cjc_narrow_proof.specs.Tables.Analysis.{table_of}
use Rattle.cjc_narrow_proof.proofs.TablesLaws.Package.{package_is_fine}
use Rattle.cjc_joint_theorem.specs.Asked.{code_by, run}
use Rattle.cjc_joint_proof.specs.JointCode as in_packages
use Rattle.cjc_joint_proof.specs.JointNames.{place_of, joint_named, joint_labels}
use Rattle.cjc_joint_theorem.specs.Together.Homes.{Homes, group_codes, own_codes, group_look_ups}
use Rattle.cjc_joint_theorem.specs.Together.Homes.{joint_world, group_analysis}
use Rattle.cjc_joint_theorem.specs.Together.Converted.{AreConverted}
use Rattle.cjc_joint_theorem.proofs.AskedLaws.{runs_in_package}
use Rattle.cjc_joint_theorem.proofs.CodeLaws.{method_by}
use Rattle.cjc_joint_theorem.proofs.TogetherLaws.Converted.{is_package}

pub runs_asked : (group : List Files) (images : List StaticImage) (homes : Homes) (tables : Tables)
    → AreConverted group (joint_image images) homes tables → (script : Script)
    → Agree 2 (λ n. run_group group images script n) (λ n. run group (joint_image images) (group_codes homes tables)
    script n)
runs_asked group images homes tables is script =
    let image = joint_image images in
    let by = group_linked group image in
    let l = group_look_ups group image homes tables in
    let a = group_analysis group image homes tables in
    runs_agree by l (table_of l a) (package_is_fine by l (joint_world group) a
    (is_package group image homes tables is)) script

-- the code whose calls tell who asks is that of each package, with who asks
coded : (group : List Files) (homes : Homes) (tables : Tables) → ((m : Method) → (let h = homes m in h.number)
    ≡ (let id = m.id in place_of group id.class)) → (m : Method)
    → group_codes homes tables m ≡ code_by (let id = m.id in place_of group id.class) (own_codes homes tables m)
coded group homes tables numbers m =
    let h = homes m in
    let b = body_in h.files m in
    method_by h.number (paired_in h.files h.near tables m) (tree_of m) (argument_words b.flags b.desc) m.insns
    (tables.types m)
    ∙ ap (λ q. code_by q (own_codes homes tables m)) (numbers m)

pub runs_in_packages : (group : List Files) (images : List StaticImage) (homes : Homes) (tables : Tables)
    → AreConverted group (joint_image images) homes tables
    → ((m : Method) → (let h = homes m in h.number) ≡ (let id = m.id in place_of group id.class)) → (script : Script)
    → Agree 2 (λ n. run_group group images script n) (λ n. in_packages.run (joint_named group (joint_image images)
    (own_codes homes tables)) (joint_labels group (own_codes homes tables)) script n)
runs_in_packages group images homes tables is numbers script =
    let agree = runs_asked group images homes tables is script in
    subst (Agree 2 (λ n. run_group group images script n))
    (λ i n. runs_in_package group (joint_image images) (own_codes homes tables) (group_codes homes tables)
    (coded group homes tables numbers) script n (λ at e. (agree.never_stuck n at).1 e) i) agree
