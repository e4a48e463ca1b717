-- The calls that several packages make, and where their methods stand.
use Rattle.std.specs.Prelude.{◌≡◌, ℕ, Bool, List, None, Option, Some, false, option_and_then, slice_get}
use Rattle.cjc_card_semantics.specs.Bytecode.Alike.{start_as}
use Rattle.cjc_card_semantics.specs.Bytecode.Machine.{Start}
use Rattle.cjc_card_semantics.specs.Bytecode.Renaming.{KnownOperation, option_as}
use Rattle.cjc_card_semantics.specs.Bytes.declared.fault.MemberId.{MemberId}
use Rattle.cjc_card_semantics.specs.Machine.Calls
use Rattle.cjc_card_semantics.specs.Machine.Methods.{start_of}
use Rattle.cjc_exported.specs.ClassFile.declared.tree.ClassTree.{ClassTree}
use Rattle.cjc_exported.specs.Components.Methods.{method_offset, placed_methods}
use Rattle.cjc_card_semantics.specs.CapRead.declared.tree.ExportedClass.{ExportedClass}
use Rattle.cjc_card_semantics.specs.ExportFile.declared.tree.ExportMethod.{ExportMethod}
use Rattle.cjc_card_semantics.specs.Machine.Operations.{unbound_of}
use Rattle.cjc_exported.specs.World.Classes.{Class, class_named, declared}
use Rattle.cjc_exported.specs.World.Lookup.{find_method, own_method}
use Rattle.cjc_exported.specs.World.declared.found.Found.{Found}
use Rattle.cjc_link_semantics.specs.Components.ExportFile.{export_of}
use Rattle.cjc_link_semantics.specs.Components.Exports.{export}
use Rattle.cjc_link_semantics.specs.Components.Names.{member_token}
use Rattle.cjc_link_semantics.specs.Components.Package.{Package, world}
use Rattle.cjc_link_semantics.specs.Components.Paired.Naming.{exported_in}
use Rattle.cjc_link_semantics.specs.JvmSemantics.Group.{is_exposed, is_of_group, own_where}
use Rattle.cjc_link_semantics.specs.JvmSemantics.Linked.{Method}
use Rattle.cjc_link_semantics.specs.JvmSemantics.OnePackage.{ResolvedMember, method_at, method_hit}
use Rattle.cjc_token_proof.specs.NCode.ByLabel.{Callee, operation}
use Rattle.cjc_token_proof.specs.Calls.Reaching
use Rattle.cjc_token_proof.specs.NCode.Lowering.Agreement.{IsAmong, IsKnownCall}
use Rattle.cjc_token_proof.specs.NCode.Lowering.Placed.{Placed, code_of, offset_of, start_on_card}
use Rattle.cjc_token_proof.specs.Tables.Infos.{HasEntry}
use Rattle.cjc_token_proof.specs.Tables.Loading.{naming}
use Rattle.cjc_token_proof.specs.WrittenCalls.Standing.{place}
use Rattle.cjc_token_proof.specs.NCode.declared.narrow.NInsn.{NInsn}
use Rattle.cjc_token_proof.specs.WrittenSends.Named.{is_called, known, known_tests}
use Rattle.cjc_joint_proof.specs.JointCode.{InPackage}
use Rattle.cjc_joint_proof.specs.JointNames.{place_of}
use Rattle.cjc_joint_proof.specs.JointPackages.{files_together}

-- code of the package makes this call
abbrev pub is_called_by : Option Package → Callee → Bool
is_called_by None m = false
is_called_by (Some p) m = is_called p m

-- Code of the package at its place makes this call.
abbrev pub called_together : List Package → InPackage Callee → Bool
called_together packages m = is_called_by (slice_get packages m.part) m.item

-- Each method of a class file of a package stands where its package has it.
abbrev pub StandByPackage : List Package → (at : Method → Placed) → Type 0
StandByPackage packages at = (q : ℕ) (p : Package) → slice_get packages q ≡ Some p → (m : Method)
    → (let id = m.id in place_of (files_together packages) id.class ≡ q) → at m ≡ place p m

-- A static method of a package that a script calls begins on the card as by name, where the package is by itself.
abbrev pub EntriesBegin : Package → Type 0
EntriesBegin p =
    (id : MemberId) → (let n = naming p in let methods = Reaching.placed_methods p.files (place p)
    in Calls.called n.loaded id ≡ option_as (start_as (code_of n) (offset_of n)) (methods.called id))

-- It is one of the methods of Method.
abbrev pub EntriesStand : Package → Type 0
EntriesStand p =
    (id : MemberId) (start : Start Placed) → (let methods = Reaching.placed_methods p.files (place p)
    in methods.called id ≡ Some start) → IsAmong (placed_methods p) start.code

-- What an instruction of a package's methods names is known in the package by itself.
abbrev pub NamesAreKnown : Package → Type 0
NamesAreKnown p =
    (m : Placed) (k : ℕ) (insn : NInsn) → IsAmong (placed_methods p) m
    → (let n = m.method in slice_get n.insns k ≡ Some insn)
    → KnownOperation (known p) (IsKnownCall (known_tests p)) (operation insn)

-- A member that names a method which the class of that name, one of the package's class files, declares, and which
-- begins on the card at its offset where the package is by itself.
pub record NamesOwnMethod (p : Package) (id : MemberId) : Type 0 where
  pub number : ℕ
  pub class : ClassTree
  pub file : (let files = p.files in slice_get files.classes number ≡ Some class)
  pub known : class_named (world p) id.class ≡ Some (declared number class)
  pub found : Found
  pub own : own_method false id.name id.desc (declared number class) ≡ Some found
  pub is_found : find_method (world p) id.class id.name id.desc ≡ Some found
  pub hit : ResolvedMember
  pub is_hit : method_hit (world p) found ≡ Some hit
  pub method : Method
  pub there : method_at p.files found ≡ Some method
  pub begins : (let n = naming p in start_of n.loaded n.part (method_offset p found)
      ≡ Some (start_on_card n method.is_abstract (place p method)))

-- A member that names a static method which a class of an export file from outside lists, under the token that it has
-- for the package.
pub record NamesOutsideMethod (packages : List Package) (p : Package) (id : MemberId) : Type 0 where
  pub class : Class
  pub known : class_named (world p) id.class ≡ Some class
  pub entry : HasEntry p class
  pub outside : is_of_group (files_together packages) (let t = entry.tree in t.name) ≡ false
  pub found : Found
  pub own : own_method false id.name id.desc class ≡ Some found
  pub is_found : find_method (world p) id.class id.name id.desc ≡ Some found
  pub hit : ResolvedMember
  pub is_hit : method_hit (world p) found ≡ Some hit
  pub method : ExportMethod
  pub listed : (let e = entry.entry in unbound_of e.methods (member_token p (Some found)) ≡ Some method)
  pub name_is : method.name ≡ id.name
  pub desc_is : method.desc ≡ id.desc

-- A member that names a static method of a class which the package imports from another package of the group: what the
-- package finds by it, the method that the other package's class declares for others, and that Export has this one under
-- the token; there it begins on the card at its offset.
pub record NamesSharedMethod (packages : List Package) (p : Package) (id : MemberId) : Type 0 where
  pub class : Class
  pub known : class_named (world p) id.class ≡ Some class
  pub entry : HasEntry p class
  pub part : ℕ
  pub exporter : Package
  pub there : slice_get packages part ≡ Some exporter
  pub written : entry.tree ≡ export_of exporter
  pub found : Found
  pub is_found : find_method (world p) id.class id.name id.desc ≡ Some found
  pub hit : ResolvedMember
  pub is_hit : method_hit (world p) found ≡ Some hit
  pub owner : hit.owner ≡ class
  pub number : ℕ
  pub tree : ClassTree
  pub file : (let files = exporter.files in slice_get files.classes number ≡ Some tree)
  pub name : tree.name ≡ id.class
  pub met : Found
  pub exposed : own_where is_exposed id.name id.desc (declared number tree) ≡ Some met
  pub met_hit : ResolvedMember
  pub is_met_hit : method_hit (world exporter) met ≡ Some met_hit
  pub same_flags : hit.flags ≡ met_hit.flags
  pub method : Method
  pub is_method : method_at exporter.files met ≡ Some method
  pub listed : (let e = entry.entry in option_and_then (λ (x : ExportedClass). slice_get x.methods (member_token p (Some
      found))) (slice_get (exported_in (export exporter)) e.token) ≡ Some (method_offset exporter met))
  pub begins : (let n = naming exporter in start_of n.loaded n.part (method_offset exporter met)
      ≡ Some (start_on_card n method.is_abstract (place exporter method)))
