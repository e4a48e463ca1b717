-- Packages that were converted by themselves, by modes, are what is asked of packages together.
use Rattle.std.proofs.Common.{◌≡◌, ℕ, Bool, false, List, Option, Some, None, refl, sym, ap, ◌∙◌}
use Rattle.std.specs.Prelude.{slice_get}
use Rattle.cjc_code.specs.declared.insn.JInsn.{JInsn}
use Rattle.cjc_types.specs.Fixpoint.Tables.{HasRow}
use Rattle.cjc_types.specs.Search.{cells_of}
use Rattle.cjc_types.specs.declared.state.State.{State}
use Rattle.cjc_jvm_semantics.specs.Linked.{Method}
use Rattle.cjc_script.specs.declared.script.Script.{Script}
use Rattle.cjc_card_semantics.specs.Bytecode.Runs.{Agree}
use Rattle.cjc_jvm_semantics.specs.Group.{joint_image, run_group}
use Rattle.cjc_joint_proof.specs.JointCode as in_packages
use Rattle.cjc_joint_proof.specs.JointNames.{joint_named, joint_labels}
use Rattle.cjc_int_alike.specs.Named.{IsOneWord}
use Rattle.cjc_joint_theorem.specs.Together.Homes.{Home}
use Rattle.cjc_joint_theorem.specs.Members.{Member, files_of, images_of, homes_of, tables_of, number_of, member_of}
use Rattle.cjc_joint_theorem.specs.Members.{home_by}
use Rattle.cjc_joint_theorem.proofs.MembersLaws.Methods.{row_of}
use Rattle.cjc_joint_modes.specs.Codes.{own_codes_by_mode}
use Rattle.cjc_joint_modes.specs.Converted.{AreConvertedByModes}
use Rattle.cjc_joint_modes.specs.Members.{int_by, modes_of, AreMembersByModes, StandByModes, AreScriptedByModes}
use Rattle.cjc_joint_modes.specs.Names.{AreIntNamedIn}
use Rattle.cjc_joint_modes.proofs.MembersLaws.First.{first as first_is}
use Rattle.cjc_joint_modes.proofs.MembersLaws.Methods.{int_methods, others}
use Rattle.cjc_joint_modes.proofs.MembersLaws.Named.{named_in}
use Rattle.cjc_joint_modes.proofs.MembersLaws.Worlds.{class_names, exceptions}
use Rattle.cjc_joint_modes.proofs.Runs.{runs_in_packages}

module _ (members : List Member) (modes : ℕ → Method → Bool) (is : AreMembersByModes members modes)
    (rest : StandByModes members modes) where
  are_named : (m : Method) → AreIntNamedIn (files_of members) (joint_image (images_of members)) (homes_of members)
      (tables_of members) (modes_of members modes) m
  are_named m at i t insn row =
      let r = row_of (member_of members m) m at t row in
      let q = number_of members m in
      let one = is.each q r.0 r.1 in
      named_in members modes is q r.0 r.1 m (ap (λ (h : Home). h.files) (ap (home_by q) r.1)) (cells_of t.stack) i.op
      (λ h left. rest r.0 m r.1 at i t insn r.2 h left) (one.named m at i t insn r.2)

  words_are : (m : Method) → modes_of members modes m ≡ false → (at : ℕ) (i : JInsn) (t : State)
      → slice_get m.insns at ≡ Some i → HasRow (let s = tables_of members in s.types m) at t → IsOneWord i.op
  words_are m off at i t insn row =
      let r = row_of (member_of members m) m at t row in
      let one = is.each (number_of members m) r.0 r.1 in
      one.one_word m at i t (ap (λ o. int_by (modes (number_of members m)) o m) (sym r.1) ∙ off) insn r.2

  pub are_converted : (first : Member) → slice_get members 0 ≡ Some first → AreScriptedByModes members modes
      → AreConvertedByModes (files_of members) (joint_image (images_of members)) (homes_of members) (tables_of members)
      (modes_of members modes)
  are_converted first at scripted = record {
    int_methods = int_methods members modes is;
    others = others members modes is;
    names = class_names members modes is;
    exceptions = exceptions members modes is first at;
    named = λ m has. are_named m;
    one_word = λ m has. words_are m;
    scripted = scripted;
    first = first_is members modes is;
  }

-- the number of a package is the one that its class has
number_is : (q : ℕ) (o : Option Member) → (let h = home_by q o in h.number) ≡ q
number_is q None = refl
number_is q (Some p) = refl

pub runs : (members : List Member) (modes : ℕ → Method → Bool) → AreMembersByModes members modes
    → StandByModes members modes → (first : Member) → slice_get members 0 ≡ Some first
    → AreScriptedByModes members modes → (script : Script)
    → (let codes = own_codes_by_mode (joint_image (images_of members)) (homes_of members) (tables_of members)
    (modes_of members modes) in Agree 4096 (λ n. run_group (files_of members) (images_of members) script n)
    (λ n. in_packages.run (joint_named (files_of members) (joint_image (images_of members)) codes)
    (joint_labels (files_of members) codes) script n))
runs members modes is rest first at scripted script = runs_in_packages (files_of members) (images_of members)
    (homes_of members) (tables_of members) (modes_of members modes) (are_converted members modes is rest first at
    scripted) (λ m. number_is (number_of members m) (member_of members m)) script
