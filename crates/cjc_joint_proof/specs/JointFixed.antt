-- Static methods, constructors and private methods that the code of several packages calls, as they stand in the group;
-- and what is left to say of calls, which are selected by their receivers.
use Rattle.std.specs.Prelude.{◌≡◌, ◌+◌, ℕ, Bool, List, Option, Some, false, length, slice_get, true}
use Rattle.cjc_card_semantics.specs.Bytecode.Alike.{IsFound, KnownKind, KnownThing, reached_as, start_as}
use Rattle.cjc_card_semantics.specs.Bytecode.Machine.{Reached, Start, Within}
use Rattle.cjc_card_semantics.specs.Bytecode.Renaming.{Knows, option_as, shape_as}
use Rattle.cjc_card_semantics.specs.Bytes.AccessFlags.{is_interface}
use Rattle.cjc_card_semantics.specs.Bytes.declared.fault.MemberId.{MemberId}
use Rattle.cjc_card_semantics.specs.ExportFile.declared.tree.ExportClass.{ExportClass}
use Rattle.cjc_card_semantics.specs.Machine.Calls
use Rattle.cjc_card_semantics.specs.Machine.Operations.{Fixed}
use Rattle.cjc_card_semantics.specs.Script.Sorts.{Shape}
use Rattle.cjc_exported.specs.Components.Methods.{method_offset, placed_methods}
use Rattle.cjc_exported.specs.Narrow.Rows.Package.{words, words_where}
use Rattle.cjc_exported.specs.World.Classes.{Class, Member}
use Rattle.cjc_exported.specs.World.Lookup.{member_at}
use Rattle.cjc_exported.specs.World.declared.found.Found.{Found}
use Rattle.cjc_link_semantics.specs.Components.ExportFile.{export_class}
use Rattle.cjc_link_semantics.specs.Components.Exports.{exported_classes, open_methods}
use Rattle.cjc_link_semantics.specs.Components.Names.{member_token}
use Rattle.cjc_link_semantics.specs.Components.Package.{Package, world}
use Rattle.cjc_link_semantics.specs.JvmSemantics.Group.{is_exposed}
use Rattle.cjc_link_semantics.specs.JvmSemantics.OnePackage.{ResolvedMember, method_hit}
use Rattle.cjc_token_proof.specs.NCode.ByLabel as ByLabel
use Rattle.cjc_token_proof.specs.NCode.Lowering.Agreement.{Cells, IsAmong, Memories}
use Rattle.cjc_token_proof.specs.NCode.Lowering.Naming.{callee}
use Rattle.cjc_token_proof.specs.NCode.Lowering.Placed.{Placed}
use Rattle.cjc_token_proof.specs.Tables.Loading.{loaded, naming}
use Rattle.cjc_token_proof.specs.WrittenCalls.Standing.{place}
use Rattle.cjc_token_proof.specs.WrittenSends.Named.{is_called}
use Rattle.cjc_joint_proof.specs.JointAlike.{IsOfGroup, JointNaming, callee_at, code_at, joint_names, offset_at}
use Rattle.cjc_joint_proof.specs.JointCalled.{NamesOutsideMethod, NamesOwnMethod, NamesSharedMethod}
use Rattle.cjc_joint_proof.specs.JointCode.{InPackage, JointCalls}

-- the call takes by token the words that it takes by name, in the package by itself
abbrev pub TakesAlone : Package → (on : Bool) → MemberId → Type 0
TakesAlone p on id = (n : ℕ) → words p.files (world p) (ByLabel.Fixed on id) ≡ Some n
    → Calls.words (loaded p) (callee (naming p) (ByLabel.Fixed on id)) ≡ Some n

-- A method that the package names, with or without a receiver: one of its own class files, one of a class from outside,
-- or one of another package of the group, which takes its words there. What has code stands in Method.
pub data NamesFixed (packages : List Package) (p : Package) (on : Bool) (id : MemberId) : Type 0 where
  of_own : (c : NamesOwnMethod p id) → IsAmong (placed_methods p) (place p c.method) → NamesFixed packages p on id
  of_outside : NamesOutsideMethod packages p id → NamesFixed packages p on id
  of_shared : (c : NamesSharedMethod packages p id) → IsAmong (placed_methods c.exporter) (place c.exporter c.method)
      → ((n : ℕ) → words_where on id (Some c.met_hit) ≡ Some n
      → Calls.words (loaded c.exporter) (Fixed on 0 (method_offset c.exporter c.met)) ≡ Some n)
      → NamesFixed packages p on id

-- A static method or constructor that a package finds in a class which it imports from another package of the group:
-- the class is one that this package exports, and declares it as a public or protected method of the same name and
-- descriptor with the flags that the importing package finds, which Export has under the token that it uses.
pub record ExportsMethod (p e : Package) (entry : ExportClass) (id : MemberId) (f : Found) : Type 0 where
  pub class : Class
  pub exported : slice_get (exported_classes e) entry.token ≡ Some class
  pub is : export_class e class ≡ entry
  pub no_interface : is_interface class.flags ≡ false
  pub place : ℕ
  pub member : Member
  pub there : slice_get class.methods place ≡ Some member
  pub shown : is_exposed member.flags ≡ true
  pub by_token : slice_get (open_methods class (length class.fields) class.methods) (member_token p (Some f))
      ≡ Some (member_at class (length class.fields + place))
  pub name_is : member.name ≡ id.name
  pub desc_is : member.desc ≡ id.desc
  pub same_flags : (hit : ResolvedMember) → method_hit (world p) f ≡ Some hit → hit.flags ≡ member.flags

-- So it is with each that the code of a package calls.
abbrev pub AreFixedNamed : List Package → Type 0
AreFixedNamed packages = (q : ℕ) (p : Package) → slice_get packages q ≡ Some p → (on : Bool) (id : MemberId)
    → is_called p (ByLabel.Fixed on id) ≡ true → NamesFixed packages p on id × TakesAlone p on id

-- a call that is selected by its receiver
abbrev pub IsSelecting : ByLabel.Callee → Type 0
IsSelecting (ByLabel.Fixed on m) = ⊥
IsSelecting other = Unit {0}

module _ (g : JointNaming) (placed : ℕ → List Placed) (memories : Memories) (calls : JointCalls Placed)
    (known : Knows (List ℕ) MemberId MemberId Cells) (KnownMethod : InPackage ByLabel.Callee → Type 0) where
  -- How many words such calls take, what they reach, and what scripts send.
  pub record JointSelectionsAgree : Type 0 where
    pub words : (m : InPackage ByLabel.Callee) (w : ℕ) → KnownMethod m → IsSelecting m.item → calls.words m ≡ Some w
        → Calls.words g.loaded (callee_at g m) ≡ Some w
    pub reached : (m : InPackage ByLabel.Callee) (o : Option (Shape (List ℕ))) (r : Reached (InPackage Placed))
        → KnownMethod m → IsSelecting m.item
        → KnownKind (joint_names g memories) known (IsOfGroup g.loaded placed) KnownMethod o
        → calls.reached m o ≡ r → IsFound r
        → Calls.reached g.loaded (callee_at g m) (option_as (shape_as g.class) o)
        ≡ reached_as (code_at g) (offset_at g) r
    pub reached_known : (m : InPackage ByLabel.Callee) (o : Option (Shape (List ℕ))) (start : Start (InPackage Placed))
        → KnownMethod m → IsSelecting m.item
        → KnownKind (joint_names g memories) known (IsOfGroup g.loaded placed) KnownMethod o
        → calls.reached m o ≡ Within start → IsOfGroup g.loaded placed start.code
    pub sent : (kind : Shape (List ℕ)) (id : MemberId) → KnownThing (joint_names g memories) known (IsOfGroup g.loaded
        placed) KnownMethod kind → Calls.sent g.loaded (shape_as g.class kind) id
        ≡ option_as (start_as (code_at g) (offset_at g)) (calls.sent kind id)
    pub sent_known : (kind : Shape (List ℕ)) (id : MemberId) (start : Start (InPackage Placed))
        → KnownThing (joint_names g memories) known (IsOfGroup g.loaded placed) KnownMethod kind
        → calls.sent kind id ≡ Some start → IsOfGroup g.loaded placed start.code
