-- Packages that were converted by themselves, whatever the modes of their methods, as members of a group.
use Rattle.std.specs.Prelude.{◌≡◌, ℕ, Bool, false, List, slice_get, Option, Some, None}
use Rattle.cjc_bytes.specs.declared.fault.MemberId.{MemberId}
use Rattle.cjc_code.specs.declared.insn.JInsn.{JInsn}
use Rattle.cjc_code.specs.declared.insn.JOp.{JOp}
use Rattle.cjc_world.specs.Classes.{all_classes}
use Rattle.cjc_world.specs.Files.{Files}
use Rattle.cjc_world.specs.declared.image.StaticImage.{StaticImage}
use Rattle.cjc_types.specs.declared.cell.Cell.{Cell}
use Rattle.cjc_types.specs.Fixpoint.Tables.{HasRow}
use Rattle.cjc_types.specs.Search.{cells_of}
use Rattle.cjc_types.specs.declared.state.State.{State}
use Rattle.cjc_jvm_semantics.specs.Linked.{Method}
use Rattle.cjc_jvm_semantics.specs.Group.{joint_image}
use Rattle.cjc_narrow_proof.specs.Runs.Tables.{Tables, HasTables, body_in}
use Rattle.cjc_int_alike.specs.ByModes.{HasIntTables}
use Rattle.cjc_int_alike.specs.Converted.{IsNarrowedByModes}
use Rattle.cjc_int_alike.specs.Named.{IsIntNamed, a_field, a_put_field, a_static, a_class, calls}
use Rattle.cjc_joint_proof.specs.Images.{TellOwnFields}
use Rattle.cjc_joint_proof.specs.Imports.{AreImports}
use Rattle.cjc_joint_proof.specs.Sound.{AreSound}
use Rattle.cjc_joint_proof.specs.Worlds.{AreApartFromOutside}
use Rattle.cjc_joint_theorem.specs.Members.{Member, files_of, images_of, number_of, member_of, homes_of, tables_of}
use Rattle.cjc_joint_theorem.specs.Rules.{SpecialsStay}
use Rattle.cjc_joint_theorem.specs.Together.Homes.{joint_world}
use Rattle.cjc_joint_modes.specs.Codes.{group_look_ups_by_mode}
use Rattle.cjc_joint_modes.specs.Converted.{IsFoundByModeIn}
use Rattle.cjc_joint_modes.specs.Names.{IsIntNamedIn}

-- what a package says of the mode of a method; none is in int mode where no package has it
abbrev pub int_by : (in_package : Method → Bool) → Option Member → Method → Bool
int_by in_package None m = false
int_by in_package (Some p) m = in_package m

-- whether a method is in int mode, by the modes of the methods of each package
abbrev pub modes_of : List Member → (modes : ℕ → Method → Bool) → Method → Bool
modes_of members modes m = int_by (modes (number_of members m)) (member_of members m) m

-- Packages each of which was converted by the modes of its methods, which break no rule of classes and names, whose
-- names differ, and which import export files of packages before them and from outside. Their images tell fields of
-- their own classes, and what a reached invokespecial takes as a receiver is of the class that it takes in the joint
-- world.
pub record AreMembersByModes (members : List Member) (modes : ℕ → Method → Bool) : Type 0 where
  pub each : (q : ℕ) (p : Member) → slice_get members q ≡ Some p
      → IsNarrowedByModes p.files p.image p.near p.tables (modes q)
  pub sound : AreSound (files_of members)
  pub outside : AreApartFromOutside (files_of members)
  pub imports : AreImports (files_of members)
  pub told : TellOwnFields (files_of members) (images_of members)
  pub specials : (q : ℕ) (p : Member) → slice_get members q ≡ Some p → (m : Method) → HasTables p.files p.tables m
      → SpecialsStay (all_classes p.files) (joint_world (files_of members)) (body_in p.files m) (let t = p.tables in
      t.types m)
  pub int_specials : (q : ℕ) (p : Member) → slice_get members q ≡ Some p → (m : Method)
      → HasIntTables p.files p.tables m → SpecialsStay (all_classes p.files) (joint_world (files_of members))
      (body_in p.files m) (let t = p.tables in t.types m)

-- ---- what is left to show of names in code

module _ {files : Files} {image : StaticImage} {near : List MemberId} {tables : Tables} {is_int : Method → Bool}
    {m : Method} {stack : List Cell} where
  -- It names a field that is no constant, a class of which objects are made, or a method.
  abbrev pub IsLeftByMode : {op : JOp} → IsIntNamed files image near tables is_int m stack op → Type 0
  IsLeftByMode (a_field f h) = Unit {0}
  IsLeftByMode (a_put_field f h) = Unit {0}
  IsLeftByMode (a_static f h) = Unit {0}
  IsLeftByMode (a_class fields made are) = Unit {0}
  IsLeftByMode (calls h) = Unit {0}
  IsLeftByMode other = ⊥

module _ (members : List Member) (modes : ℕ → Method → Bool) where
  -- such names in reached instructions stand for what the joint world has
  abbrev pub StandByModes : Type 0
  StandByModes = (p : Member) (m : Method) → member_of members m ≡ Some p → (at : ℕ) (i : JInsn) (t : State)
      → slice_get m.insns at ≡ Some i → HasRow (let s = p.tables in s.types m) at t
      → (h : IsIntNamed p.files p.image p.near p.tables (modes (number_of members m)) m (cells_of t.stack) i.op)
      → IsLeftByMode h → IsIntNamedIn (files_of members) (joint_image (images_of members)) (homes_of members)
      (tables_of members) (modes_of members modes) m (cells_of t.stack) i.op

  -- each member of a script is one that methods with tables are found for, or none
  abbrev pub AreScriptedByModes : Type 0
  AreScriptedByModes = (id : MemberId) → IsFoundByModeIn (files_of members) (group_look_ups_by_mode (files_of members)
      (joint_image (images_of members)) (homes_of members) (tables_of members) (modes_of members modes))
      (homes_of members) (tables_of members) (modes_of members modes) id
