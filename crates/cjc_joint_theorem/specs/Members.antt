-- Packages that were converted by themselves, as members of a group.
use Rattle.std.specs.Prelude.{◌≡◌, ℕ, List, [], map, slice_get, Option, Some, None}
use Rattle.cjc_bytes.specs.declared.fault.MemberId.{MemberId}
use Rattle.cjc_world.specs.Files.{Files}
use Rattle.cjc_world.specs.Classes.{all_classes}
use Rattle.cjc_world.specs.declared.image.StaticImage.{StaticImage}
use Rattle.cjc_code.specs.declared.insn.JInsn.{JInsn}
use Rattle.cjc_code.specs.declared.insn.JOp.{JOp}
use Rattle.cjc_types.specs.declared.cell.Cell.{Cell}
use Rattle.cjc_types.specs.Fixpoint.Tables.{HasRow}
use Rattle.cjc_types.specs.Search.{cells_of}
use Rattle.cjc_types.specs.declared.state.State.{State}
use Rattle.cjc_narrow_proof.specs.LowerIntervals.Frames.{RangeState}
use Rattle.cjc_jvm_semantics.specs.Linked.{Method}
use Rattle.cjc_jvm_semantics.specs.Group.{joint_image}
use Rattle.cjc_narrow_proof.specs.Runs.Tables.{Tables, HasTables, body_in}
use Rattle.cjc_narrow_proof.specs.Runs.Converted.{IsConverted}
use Rattle.cjc_narrow_proof.specs.Runs.Names.{IsNamed, a_field, a_put_field, a_static, a_class, a_static_call}
use Rattle.cjc_narrow_proof.specs.Runs.Names.{a_call_on_receiver}
use Rattle.cjc_joint_proof.specs.Images.{TellOwnFields}
use Rattle.cjc_joint_proof.specs.Imports.{AreImports}
use Rattle.cjc_joint_proof.specs.Sound.{AreSound}
use Rattle.cjc_joint_proof.specs.Worlds.{AreApartFromOutside}
use Rattle.cjc_joint_proof.specs.JointNames.{place_of}
use Rattle.cjc_joint_theorem.specs.Rules.{SpecialsStay}
use Rattle.cjc_joint_theorem.specs.Together.Homes.{Home, Homes, group_look_ups, joint_world}
use Rattle.cjc_joint_theorem.specs.Together.Names.{IsNamedIn}
use Rattle.cjc_joint_theorem.specs.Together.Converted.{IsFoundIn}

-- A package with its static image, the instance fields that have an index of one byte, and the least tables of its
-- methods.
pub record Member : Type 0 where
  pub files : Files
  pub image : StaticImage
  pub near : List MemberId
  pub tables : Tables

-- the files of all
abbrev pub files_of : List Member → List Files
files_of members = map (λ (m : Member). m.files) members

-- what their static cells hold at first
abbrev pub images_of : List Member → List StaticImage
images_of members = map (λ (m : Member). m.image) members

-- the number of the package of a method
abbrev pub number_of : List Member → Method → ℕ
number_of members m = let id = m.id in place_of (files_of members) id.class

-- that package; none where the group has none
abbrev pub member_of : List Member → Method → Option Member
member_of members m = slice_get members (number_of members m)

-- no class file and no export file
abbrev pub no_files : Files
no_files = record { package_name = []; lines = []; classes = []; exports = [] }

-- a package by its number
abbrev pub home_by : (number : ℕ) → Option Member → Home
home_by q None = record { number = q; files = no_files; near = [] }
home_by q (Some p) = record { number = q; files = p.files; near = p.near }

-- the package of each method
abbrev pub homes_of : List Member → Homes
homes_of members m = home_by (number_of members m) (member_of members m)

-- what its tables say of a method
abbrev pub types_by : Option Member → Method → List (Option State)
types_by None m = []
types_by (Some p) m = let t = p.tables in t.types m

-- the same of intervals
abbrev pub ranges_by : Option Member → Method → List (Option RangeState)
ranges_by None m = []
ranges_by (Some p) m = let t = p.tables in t.ranges m

-- the tables of each method, by its package
abbrev pub tables_of : List Member → Tables
tables_of members = record {
  types = λ m. types_by (member_of members m) m;
  ranges = λ m. ranges_by (member_of members m) m;
}

-- Packages each of which was converted, which break no rule of classes and names, whose names differ, and which import
-- export files of packages before them and from outside. Their images tell fields of their own classes, and what
-- a reached invokespecial takes as a receiver is of the class that it takes in the joint world.
pub record AreMembers (members : List Member) : Type 0 where
  pub each : (q : ℕ) (p : Member) → slice_get members q ≡ Some p → IsConverted p.files p.image p.near p.tables
  pub sound : AreSound (files_of members)
  pub outside : AreApartFromOutside (files_of members)
  pub imports : AreImports (files_of members)
  pub told : TellOwnFields (files_of members) (images_of members)
  pub specials : (q : ℕ) (p : Member) → slice_get members q ≡ Some p → (m : Method) → HasTables p.files p.tables m
      → SpecialsStay (all_classes p.files) (joint_world (files_of members)) (body_in p.files m) (let t = p.tables in
      t.types m)

-- ---- what is left to show of names in code

module _ {files : Files} {image : StaticImage} {near : List MemberId} {tables : Tables} {m : Method}
    {stack : List Cell} where
  -- It names a field that is no constant, a class of which objects are made, or a method.
  abbrev pub IsLeft : {op : JOp} → IsNamed files image near tables m stack op → Type 0
  IsLeft (a_field f h) = Unit {0}
  IsLeft (a_put_field f h) = Unit {0}
  IsLeft (a_static f h) = Unit {0}
  IsLeft (a_class fields made are) = Unit {0}
  IsLeft (a_static_call h) = Unit {0}
  IsLeft (a_call_on_receiver h) = Unit {0}
  IsLeft other = ⊥

-- such names in reached instructions stand for what the joint world has
abbrev pub StandTogether : List Member → Type 0
StandTogether members = (p : Member) (m : Method) → member_of members m ≡ Some p → (at : ℕ) (i : JInsn) (t : State)
    → slice_get m.insns at ≡ Some i → HasRow (let s = p.tables in s.types m) at t
    → (h : IsNamed p.files p.image p.near p.tables m (cells_of t.stack) i.op) → IsLeft h
    → IsNamedIn (files_of members) (joint_image (images_of members)) (homes_of members) (tables_of members) m
    (cells_of t.stack) i.op

-- each member of a script is one that methods with tables are found for, or none
abbrev pub AreScripted : List Member → Type 0
AreScripted members = (id : MemberId) → IsFoundIn (files_of members) (group_look_ups (files_of members)
    (joint_image (images_of members)) (homes_of members) (tables_of members)) (homes_of members) (tables_of members) id
