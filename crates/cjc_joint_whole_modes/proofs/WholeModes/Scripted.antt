-- What scripts name in packages by the modes of their methods: each method that is found for `call` or `send` is one of a
-- class file with code, which is begun by the tables of its package and mode, or there is none.
use Rattle.std.proofs.Common.{◌≡◌, ℕ, Bool, false, true, List, Some}
use Rattle.cjc_bytes.specs.declared.fault.MemberId.{MemberId}
use Rattle.cjc_jvm_semantics.specs.Group.{joint_image}
use Rattle.cjc_jvm_semantics.specs.Linked.{Method}
use Rattle.cjc_jvm_semantics.specs.OnePackage.{is_initialiser, method_by}
use Rattle.cjc_ncode.specs.ByLabel.{Named}
use Rattle.cjc_world.specs.Files.{Files}
use Rattle.cjc_world.specs.declared.image.StaticImage.{StaticImage}
use Rattle.cjc_narrow_proof.specs.Runs.Tables.{Tables}
use Rattle.cjc_joint_theorem.specs.Members.{Member, files_of, homes_of, images_of, tables_of}
use Rattle.cjc_joint_theorem.specs.Together.Homes.{Homes}
use Rattle.cjc_joint_modes.specs.Codes.{group_look_ups_by_mode}
use Rattle.cjc_joint_modes.specs.Converted.{IsFoundByModeIn, IsIntMemberIn, a_member, no_method}
use Rattle.cjc_joint_modes.specs.Members.{AreScriptedByModes, modes_of}
use Rattle.cjc_joint_whole.proofs.WholeLaws.Scripted.{IsCodedIn, IsNoneOr, called_of, known_together, none_at_all}
use Rattle.cjc_joint_whole.proofs.WholeLaws.Scripted.{none_or, own_there, sent_of, some_one}
use Rattle.cjc_joint_whole_modes.specs.Whole.{AreWholeByModes}
use Rattle.cjc_joint_whole_modes.proofs.WholeModes.Begun.{begun_of, desc_of}
use Rattle.cjc_joint_whole_modes.proofs.WholeModes.Looks.{made_short}

module _ (members : List Member) (modes : ℕ → Method → Bool) (is : AreWholeByModes members modes) where
  abbrev group : List Files
  group = files_of members

  abbrev image : StaticImage
  image = joint_image (images_of members)

  abbrev homes : Homes
  homes = homes_of members

  abbrev tables : Tables
  tables = tables_of members

  abbrev is_int : Method → Bool
  is_int = modes_of members modes

  abbrev l : Named
  l = group_look_ups_by_mode group image homes tables is_int

  member_is : (id : MemberId) → is_initialiser id.name ≡ false → IsCodedIn members id
      → IsIntMemberIn group l homes tables is_int id
  member_is id initial r =
      let o = own_there members is id r in
      let m = method_by r.class r.method (Some r.tree) in
      record {
        desc = desc_of members modes is id o.0 m (begun_of members modes is id o.0 m initial o.1);
        known = known_together members is id r;
        is_called = λ n e. begun_of members modes is id false n initial (called_of members is id n e);
        is_sent = λ kind n made e. (let s = sent_of members is id kind (made_short group image homes tables is_int kind
            made) n e in begun_of members modes is id true n initial s.own);
        receives = λ kind n made e. (let s = sent_of members is id kind (made_short group image homes tables is_int kind
            made) n e in s.below);
      }

  pub scripted : AreScriptedByModes members modes
  scripted id = by (none_or members is id)
    where
      by : IsNoneOr members is id → IsFoundByModeIn group l homes tables is_int id
      by (none_at_all not_called not_sent) = no_method not_called (λ kind made. not_sent kind (made_short group image
          homes tables is_int kind made))
      by (some_one initial r) = a_member (member_is id initial r)
