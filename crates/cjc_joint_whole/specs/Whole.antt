-- Packages that were tested and break no rule, as members of a group.
use Rattle.std.specs.Prelude.{◌≡◌, ◌⊎◌, ◌+◌, ◌<◌, ℕ, List, Option, Some, false, length, slice_get, true}
use Rattle.cjc_bytes.specs.AccessFlags.{is_abstract, is_interface, is_private}
use Rattle.cjc_bytes.specs.Descriptor.{IsClassName}
use Rattle.cjc_bytes.specs.declared.settings.Settings.{Settings}
use Rattle.cjc_bytes.specs.declared.fault.MemberId.{MemberId}
use Rattle.cjc_components.specs.Bytecode.declared.insn.JInsn.{JInsn}
use Rattle.cjc_components.specs.Bytecode.declared.insn.JOp.{JOp}
use Rattle.cjc_components.specs.Bytecode.declared.method_code.MethodCode.{MethodCode}
use Rattle.cjc_components.specs.ExportFile.{export_of}
use Rattle.cjc_components.specs.Package.{Package}
use Rattle.cjc_vtable.specs.Fixpoint.Tables.{HasRow}
use Rattle.cjc_vtable.specs.Kept.{ExportsAgree}
use Rattle.cjc_world.specs.ClassFile.declared.tree.ClassTree.{ClassTree}
use Rattle.cjc_world.specs.ClassFile.declared.tree.MethodTree.{MethodTree}
use Rattle.cjc_world.specs.Classes.{Class, Member as WorldMember, all_classes, class_named, declared}
use Rattle.cjc_world.specs.ExportFile.Members.{is_unbound}
use Rattle.cjc_world.specs.Files.{Files}
use Rattle.cjc_world.specs.Lookup.{first, member_at}
use Rattle.cjc_world.specs.Supertypes.{line}
use Rattle.cjc_world.specs.Upwards.{OnLine}
use Rattle.cjc_world.specs.declared.found.Found.{Found}
use Rattle.cjc_world.specs.declared.image.StaticImage.{StaticImage}
use Rattle.cjc_world.specs.ExportFile.declared.tree.ExportClass.{ExportClass}
use Rattle.cjc_world.specs.ExportFile.declared.tree.ExportMethod.{ExportMethod}
use Rattle.cjc_world.specs.ExportFile.declared.tree.ExportTree.{ExportTree}
use Rattle.cjc_token_proof.specs.Subset.Members.{imports}
use Rattle.cjc_token_proof.specs.Types.declared.cell.Cell.{Cell}
use Rattle.cjc_token_proof.specs.Types.declared.state.State.{State}
use Rattle.cjc_token_proof.specs.Types.Search.{cells_of}
use Rattle.cjc_jvm_semantics.specs.Linked.{Callee, Method}
use Rattle.cjc_jvm_semantics.specs.Group.{is_package_visible, joint_exports, joint_image, own_within}
use Rattle.cjc_jvm_semantics.specs.OnePackage.{ResolvedMember, is_initialiser, method_hit}
use Rattle.cjc_narrow_proof.specs.Laws.Unbroken.{KeepsNames, NoneWorksOnInt}
use Rattle.cjc_narrow_proof.specs.Runs.Calls.{Chooses, above_holder, by_interface, itself, on_class}
use Rattle.cjc_narrow_proof.specs.Runs.Converted.{IsFirst}
use Rattle.cjc_narrow_proof.specs.Runs.Names.{IsNamed, a_call_on_receiver}
use Rattle.cjc_narrow_proof.specs.Runs.Tables.{Tables, look_ups}
use Rattle.cjc_shape_proof.specs.Whole.{AreTabled}
use Rattle.cjc_shape_proof.specs.WorldProof.Files.{AreReadFiles, ExportsAreSound}
use Rattle.cjc_shape_proof.specs.Written.Converted.{ExportsArePlain}
use Rattle.cjc_shape_proof.specs.Written.Entries.{UnboundAreOwn}
use Rattle.cjc_joint_proof.specs.Images.{TellOwnFields}
use Rattle.cjc_joint_proof.specs.Sound.{AreSound}
use Rattle.cjc_joint_proof.specs.Worlds.{AreApartFromOutside, IsOwn, before, outside_classes}
use Rattle.cjc_joint_theorem.specs.Members.{Member, files_of, homes_of, images_of, member_of, tables_of}
use Rattle.cjc_joint_theorem.specs.Ordered.{IsOutsideOrdered}
use Rattle.cjc_joint_theorem.specs.Together.Homes.{joint_world}
use Rattle.cjc_joint_theorem.specs.Together.Names.{IsNamedIn}

-- The files of a package that was tested and breaks no rule, over sound export files, whichever of its methods work on
-- int.
pub record IsReadPackage (list : List ℕ) (files : Files) (codes : List MethodCode) (settings : Settings) : Type 0 where
  pub unbroken : KeepsNames list files codes settings
  pub package_name : IsClassName files.package_name
  pub read : AreReadFiles files
  pub sound : ExportsAreSound files

-- A package of such files, over export files which don't contradict one another and list no private method, and of
-- interfaces no static one. What is asked of its code, and of what its static image says, is one parameter.
pub record IsMemberWith (Coded : List MethodCode → Type 0) (p : Member) : Type 0 where
  pub list : List ℕ
  pub codes : List MethodCode
  pub settings : Settings
  pub whole : IsReadPackage list p.files codes settings
  pub coded : Coded codes
  pub plain : ExportsArePlain p.files
  pub agree : ExportsAgree (all_classes p.files)
  pub no_private : (k i : ℕ) (e : ExportClass) (m : ExportMethod)
      → (let f = p.files in slice_get (imports f.exports) k ≡ Some e) → slice_get e.methods i ≡ Some m
      → is_private m.flags ≡ false
  -- methods of interfaces are public (Java Virtual Machine Specification, section 4.6): no rule tests it in class files
  -- and export files, since in one package nothing depends on it
  pub interfaces : (x : List ℕ) (c : Class) (i : ℕ) (m : WorldMember) → class_named (all_classes p.files) x ≡ Some c
      → is_interface c.flags ≡ true → slice_get c.methods i ≡ Some m → is_initialiser m.name ≡ false
      → is_package_visible m.flags ≡ false

-- None of its methods works on int, and each has its tables; what its static image says is of sound types.
pub record IsCodedShort (p : Member) (codes : List MethodCode) : Type 0 where
  pub no_int : NoneWorksOnInt p.files codes
  pub tabled : AreTabled p.files codes p.tables
  pub first : IsFirst (look_ups p.files p.image p.near p.tables) p.files p.image

-- a package none of whose methods works on int
abbrev pub IsWholeMember : Member → Type 0
IsWholeMember p = IsMemberWith (IsCodedShort p) p

-- The export file is the one that is written for a package of these files. The static methods and constructors that it
-- lists are those that the classes of the package declare.
pub record IsWrittenFor (files : Files) (t : ExportTree) : Type 0 where
  pub exporter : Package
  pub same_files : exporter.files ≡ files
  pub is : t ≡ export_of exporter
  pub unbound : UnboundAreOwn exporter

-- An export file that the package at a place imports: the one that is written for a package before it, or one from
-- outside.
pub data IsExport (members : List Member) (q : ℕ) (t : ExportTree) : Type 0 where
  of_member : (j : ℕ) (m : Member) → j < q → slice_get members j ≡ Some m → IsWrittenFor m.files t
      → IsExport members q t
  from_outside : (n : ℕ) → slice_get (joint_exports (files_of members)) n ≡ Some t → IsExport members q t

-- What the search of a class and its superclasses gives among the classes of a package is no abstract method.
pub record HasCodeWithin (w : List Class) (package_name x name desc : List ℕ) : Type 0 where
  pub place : Found
  pub hit : ResolvedMember
  pub found : first (own_within package_name name desc) (line w x) ≡ Some place
  pub is_hit : method_hit w place ≡ Some hit
  pub is_concrete : is_abstract hit.flags ≡ false

-- A package-visible abstract method of a superclass in another package of a group has code in that package, where the class
-- is not abstract (735).
abbrev pub AreImplemented : List Files → Type 0
AreImplemented group = (q j k n i : ℕ) (p m : Files) (t u : ClassTree) (x : MethodTree) → IsOwn group q k p t
    → IsOwn group j n m u → (q ≡ j → ⊥) → is_interface t.flags ≡ false → is_abstract t.flags ≡ false
    → OnLine (joint_world group) t.name (declared (before group j + n) u) → slice_get u.methods i ≡ Some x
    → is_package_visible x.flags ≡ true → is_abstract x.flags ≡ true
    → HasCodeWithin (joint_world group) m.package_name t.name x.name x.desc

-- Such packages, whose names differ, and which import what is written for packages before them, and export files from
-- outside, whose classes list what is of its kind. Their images tell fields of their own classes.
pub record AreWholeWith (Coded : ℕ → Member → List MethodCode → Type 0) (members : List Member) : Type 0 where
  pub each : (q : ℕ) (p : Member) → slice_get members q ≡ Some p → IsMemberWith (Coded q p) p
  pub sound : AreSound (files_of members)
  pub outside : AreApartFromOutside (files_of members)
  pub written : (q k : ℕ) (p : Member) (t : ExportTree) → slice_get members q ≡ Some p
      → (let f = p.files in slice_get f.exports k ≡ Some t) → IsExport members q t
  pub order : IsOutsideOrdered (files_of members)
  pub told : TellOwnFields (files_of members) (images_of members)
  -- 735
  pub implemented : AreImplemented (files_of members)
  -- classes from outside list no package-visible method: export files have public and protected ones alone (Java Card
  -- Virtual Machine Specification 2.2.2, section 5.9), and no rule tests that
  pub shown : (k i : ℕ) (e : ExportClass) (m : ExportMethod) → slice_get (outside_classes (files_of members)) k ≡ Some e
      → slice_get e.methods i ≡ Some m → is_initialiser m.name ≡ false → is_package_visible m.flags ≡ false

-- such packages, none of whose methods works on int
abbrev pub AreWhole : List Member → Type 0
AreWhole members = AreWholeWith (λ q p codes. IsCodedShort p codes) members

-- ---- what is left to show of names in code

-- A class that a package imports, of another package of the group.
pub record IsOfMember (members : List Member) (c : Class) : Type 0 where
  pub imported_one : c.is_imported ≡ true
  pub part : ℕ
  pub member : Member
  pub at : slice_get members part ≡ Some member
  pub number : ℕ
  pub class : ClassTree
  pub file : (let f = member.files in slice_get f.classes number ≡ Some class)
  pub same_name : class.name ≡ c.name

-- A virtual method that is found in an interface, or in a class of another package of the group.
abbrev pub IsLeftVirtual : List Member → ResolvedMember → Type 0
IsLeftVirtual members hit = let c = hit.owner in (is_interface c.flags ≡ true) ⊎ IsOfMember members c

module _ (members : List Member) {files : Files} {holder : List ℕ} {id : MemberId} {place : Found}
    {hit : ResolvedMember} where
  -- What is called is such a method and selected by invokevirtual, or any that is selected by invokeinterface or above the
  -- class that holds the code: it is neither a constructor nor private.
  abbrev pub IsSelecting : {op : ℕ} {class : List ℕ} {choice : List ℕ → Option Callee}
      → Chooses files holder id place hit op class choice → Type 0
  IsSelecting (on_class plain wanted) = IsLeftVirtual members hit
  IsSelecting (itself on special) = ⊥
  IsSelecting (above_holder callee on plain is) = Unit {0}
  IsSelecting (by_interface plain wanted) = Unit {0}

module _ (members : List Member) {files : Files} {image : StaticImage} {near : List MemberId} {tables : Tables}
    {m : Method} {stack : List Cell} where
  -- a method is called that is selected so
  abbrev pub IsSelectingCall : {op : JOp} → IsNamed files image near tables m stack op → Type 0
  IsSelectingCall (a_call_on_receiver h) = IsSelecting members h.form
  IsSelectingCall other = ⊥

-- the methods that reached instructions select so stand for what the joint world has
abbrev pub SelectionsStand : List Member → Type 0
SelectionsStand members = (p : Member) (m : Method) → member_of members m ≡ Some p → (at : ℕ) (i : JInsn) (t : State)
    → slice_get m.insns at ≡ Some i → HasRow (let s = p.tables in s.types m) at t
    → (h : IsNamed p.files p.image p.near p.tables m (cells_of t.stack) i.op) → IsSelectingCall members h
    → IsNamedIn (files_of members) (joint_image (images_of members)) (homes_of members) (tables_of members) m
    (cells_of t.stack) i.op

-- ---- methods that code names by imported classes

-- What is found of a class is a static method or a constructor.
abbrev pub IsBound : Class → Found → Type 0
IsBound c f = (i : ℕ) (m : WorldMember) → slice_get c.methods i ≡ Some m → f ≡ member_at c (length c.fields + i)
    → is_unbound m.flags m.name ≡ true
