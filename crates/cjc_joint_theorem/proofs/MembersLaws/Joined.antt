-- Packages that were converted by themselves are what is asked of packages together.
use Rattle.std.proofs.Common.{◌≡◌, ℕ, List, Option, Some, None, refl, ap}
use Rattle.std.specs.Prelude.{slice_get}
use Rattle.cjc_types.specs.Search.{cells_of}
use Rattle.cjc_jvm_semantics.specs.Linked.{Method}
use Rattle.cjc_script.specs.declared.script.Script.{Script}
use Rattle.cjc_card_semantics.specs.Bytecode.Runs.{Agree}
use Rattle.cjc_jvm_semantics.specs.Group.{joint_image, run_group}
use Rattle.cjc_joint_proof.specs.JointCode as in_packages
use Rattle.cjc_joint_proof.specs.JointNames.{joint_named, joint_labels}
use Rattle.cjc_joint_theorem.specs.Together.Homes.{Home, own_codes}
use Rattle.cjc_joint_theorem.specs.Together.Names.{AreNamedIn}
use Rattle.cjc_joint_theorem.specs.Together.Converted.{AreConverted}
use Rattle.cjc_joint_theorem.specs.Members.{Member, files_of, images_of, homes_of, tables_of, number_of, member_of}
use Rattle.cjc_joint_theorem.specs.Members.{home_by, AreMembers, StandTogether, AreScripted}
use Rattle.cjc_joint_theorem.proofs.TogetherLaws.Runs.{runs_in_packages}
use Rattle.cjc_joint_theorem.proofs.MembersLaws.Worlds.{class_names, exceptions}
use Rattle.cjc_joint_theorem.proofs.MembersLaws.Methods.{methods, row_of}
use Rattle.cjc_joint_theorem.proofs.MembersLaws.First.{first as first_is}
use Rattle.cjc_joint_theorem.proofs.MembersLaws.Named.{named_in}

module _ (members : List Member) (is : AreMembers members) (rest : StandTogether members) where
  are_named : (m : Method) → AreNamedIn (files_of members) (joint_image (images_of members)) (homes_of members)
      (tables_of members) m
  are_named m at i t insn row =
      let r = row_of (member_of members m) m at t row in
      let q = number_of members m in
      let one = is.each q r.0 r.1 in
      let has = one.methods m at t r.2 in
      named_in members is q r.0 r.1 m (ap (λ (h : Home). h.files) (ap (home_by q) r.1)) (cells_of t.stack)
      i.op (λ h left. rest r.0 m r.1 at i t insn r.2 h left) (one.named m has at i t insn r.2)

  pub are_converted : (first : Member) → slice_get members 0 ≡ Some first → AreScripted members
      → AreConverted (files_of members) (joint_image (images_of members)) (homes_of members) (tables_of members)
  are_converted first at scripted = record {
    methods = methods members is;
    names = class_names members is;
    exceptions = exceptions members is first at;
    named = λ m has. are_named m;
    scripted = scripted;
    first = first_is members is;
  }

-- the number of a package is the one that its class has
number_is : (q : ℕ) (o : Option Member) → (let h = home_by q o in h.number) ≡ q
number_is q None = refl
number_is q (Some p) = refl

pub runs : (members : List Member) → AreMembers members → StandTogether members → (first : Member)
    → slice_get members 0 ≡ Some first → AreScripted members → (script : Script)
    → Agree 2 (λ n. run_group (files_of members) (images_of members) script n)
    (λ n. in_packages.run (joint_named (files_of members) (joint_image (images_of members)) (own_codes (homes_of
    members)
    (tables_of members))) (joint_labels (files_of members) (own_codes (homes_of members) (tables_of members))) script n)
runs members is rest first at scripted script = runs_in_packages (files_of members) (images_of members)
    (homes_of members) (tables_of members) (are_converted members is rest first at scripted)
    (λ m. number_is (number_of members m) (member_of members m)) script
