-- Whole runs of several packages whose methods are of both modes, by name, and of their narrow code by either machine.
use Rattle.std.proofs.Common.{◌≡◌, Bool, true, false, ap, subst, ◌∙◌, List}
use Rattle.cjc_script.specs.declared.script.Script.{Script}
use Rattle.cjc_card_semantics.specs.Bytecode.Runs.{Agree}
use Rattle.cjc_world.specs.Files.{Files}
use Rattle.cjc_world.specs.declared.image.StaticImage.{StaticImage}
use Rattle.cjc_jvm_semantics.specs.Linked.{Method}
use Rattle.cjc_jvm_semantics.specs.Group.{group_linked, joint_image, run_group}
use Rattle.cjc_narrow.specs.Rows.Package.{tree_of}
use Rattle.cjc_narrow.specs.Rows.Resolved.{argument_words, resolution}
use Rattle.cjc_narrow_proof.specs.Runs.Tables.{Tables, body_in, paired_in}
use Rattle.cjc_narrow_proof.specs.Tables.Analysis.{table_of}
use Rattle.cjc_int_runs.proofs.Packages.{package_agrees}
use Rattle.cjc_int_alike.specs.ByModes.{code_by as own_code_by}
use Rattle.cjc_int_alike.proofs.Package.{package_fine}
use Rattle.cjc_joint_proof.specs.JointCode as in_packages
use Rattle.cjc_joint_proof.specs.JointNames.{place_of, joint_named, joint_labels}
use Rattle.cjc_joint_theorem.specs.Asked.{code_by, run}
use Rattle.cjc_joint_theorem.specs.Together.Homes.{Homes, joint_world}
use Rattle.cjc_joint_theorem.proofs.AskedLaws.{runs_in_package}
use Rattle.cjc_joint_theorem.proofs.CodeLaws.{method_by}
use Rattle.cjc_joint_modes.specs.Codes.{group_analysis_by_mode, group_bodies_by_mode, group_code_by}
use Rattle.cjc_joint_modes.specs.Codes.{group_codes_by_mode, group_look_ups_by_mode, own_codes_by_mode, result_for}
use Rattle.cjc_joint_modes.specs.Converted.{AreConvertedByModes}
use Rattle.cjc_joint_modes.proofs.Codes.{int_method_by}
use Rattle.cjc_joint_modes.proofs.Package.{is_package}

module _ (group : List Files) (images : List StaticImage) (homes : Homes) (tables : Tables)
    (is_int : Method → Bool) where
  abbrev image : StaticImage
  image = joint_image images

  pub runs_asked : AreConvertedByModes group image homes tables is_int → (script : Script)
      → Agree 4096 (λ n. run_group group images script n)
      (λ n. run group image (group_codes_by_mode homes tables is_int) script n)
  runs_asked is script =
      let by = group_linked group image in
      let l = group_look_ups_by_mode group image homes tables is_int in
      let a = group_analysis_by_mode group image homes tables is_int in
      let bodies = group_bodies_by_mode group image homes tables is_int in
      package_agrees by l (table_of l a) bodies result_for (package_fine by l (joint_world group) a bodies result_for
      (is_package group image homes tables is_int is)) script

  -- the code whose calls tell who asks is that of each package, with who asks, in either mode
  coded_by : (int : Bool) (m : Method) → (let h = homes m in group_code_by homes tables int m ≡ code_by h.number
      (own_code_by h.files image h.near tables is_int int m))
  coded_by true m =
      let h = homes m in
      let id = m.id in
      int_method_by h.number (resolution h.files h.near id.class) (tree_of m) (body_in h.files m) (tables.types m)
      (tables.ranges m)
  coded_by false m =
      let h = homes m in
      let b = body_in h.files m in
      method_by h.number (paired_in h.files h.near tables m) (tree_of m) (argument_words b.flags b.desc) m.insns
      (tables.types m)

  coded : ((m : Method) → (let h = homes m in h.number) ≡ (let id = m.id in place_of group id.class)) → (m : Method)
      → group_codes_by_mode homes tables is_int m ≡ code_by (let id = m.id in place_of group id.class)
      (own_codes_by_mode image homes tables is_int m)
  coded numbers m = coded_by (is_int m) m ∙ ap (λ q. code_by q (own_codes_by_mode image homes tables is_int m))
      (numbers m)

  pub runs_in_packages : AreConvertedByModes group image homes tables is_int
      → ((m : Method) → (let h = homes m in h.number) ≡ (let id = m.id in place_of group id.class)) → (script : Script)
      → (let codes = own_codes_by_mode image homes tables is_int in Agree 4096 (λ n. run_group group images script n)
      (λ n. in_packages.run (joint_named group image codes) (joint_labels group codes) script n))
  runs_in_packages is numbers script =
      let agree = runs_asked is script in
      subst (Agree 4096 (λ n. run_group group images script n))
      (λ i n. runs_in_package group image (own_codes_by_mode image homes tables is_int)
      (group_codes_by_mode homes tables is_int) (coded numbers) script n (λ at e. (agree.never_stuck n at).1 e) i) agree
