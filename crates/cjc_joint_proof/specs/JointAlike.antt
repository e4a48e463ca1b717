-- Several packages together on the card: what the names of all are there, and what the tables of classes, tokens,
-- static cells and names have to say of them, for their narrow code and their components to run alike.
use Rattle.std.specs.Prelude.{◌≡◌, ℕ, Bool, List, Option, Some, slice_get, true}
use Rattle.cjc_card_semantics.specs.Bytes.declared.fault.MemberId.{MemberId}
use Rattle.cjc_card_semantics.specs.Script.Sorts.{Shape}
use Rattle.cjc_card_semantics.specs.Bytecode.Alike.{IsFound, KnownKind, KnownThing, Names, reached_as, start_as}
use Rattle.cjc_card_semantics.specs.Bytecode.Effects.{HeapObject, shape}
use Rattle.cjc_card_semantics.specs.Bytecode.Machine.{Reached, Start, Within}
use Rattle.cjc_card_semantics.specs.Bytecode.Renaming.{KnownHeapObject, KnownOperation, Knows, option_as, shape_as}
use Rattle.cjc_card_semantics.specs.Machine.Calls
use Rattle.cjc_card_semantics.specs.Machine.Classes.{Class, Field}
use Rattle.cjc_card_semantics.specs.Machine.Loaded.{Loaded, Part}
use Rattle.cjc_card_semantics.specs.Machine.Methods.{Code}
use Rattle.cjc_card_semantics.specs.Machine.Operations.{Callee}
use Rattle.cjc_card_semantics.specs.Machine.Statics.{Image, StaticCell}
use Rattle.cjc_token_proof.specs.NCode.ByLabel.{Named, operation}
use Rattle.cjc_token_proof.specs.NCode.ByLabel
use Rattle.cjc_token_proof.specs.NCode.Lowering.Agreement.{Cells, IsAmong, IsKnownCall, Memories, everything}
use Rattle.cjc_token_proof.specs.NCode.Lowering.Handlers.{IsObject}
use Rattle.cjc_token_proof.specs.NCode.Lowering.Naming.{Naming, callee, field}
use Rattle.cjc_token_proof.specs.NCode.Lowering.Package.{HoldsMethods}
use Rattle.cjc_token_proof.specs.NCode.Lowering.Placed.{Placed, code_of, offset_of}
use Rattle.cjc_token_proof.specs.NCode.declared.narrow.NInsn.{NInsn}
use Rattle.cjc_token_proof.specs.NCode.declared.narrow.NMethod.{NMethod}
use Rattle.cjc_joint_proof.specs.JointCode.{InPackage, JointCalls, of_package, operation_in}

-- What packages name on the card: classes, fields and static cells, whoever names them; and of each package its pool,
-- with the references and tokens that stand there.
pub record JointNaming : Type 0 where
  pub loaded : Loaded
  pub class : List ℕ → Class
  pub field_token : MemberId → ℕ
  pub cell : MemberId → StaticCell
  pub own : (part : ℕ) → Naming

-- what the package at a place names
abbrev pub naming_at : JointNaming → (part : ℕ) → Naming
naming_at g q = record (g.own q) {
  loaded = g.loaded;
  part = q;
  class = g.class;
  field_token = g.field_token;
  cell = g.cell;
}

-- the code of a method in Method of its package
abbrev pub code_at : JointNaming → InPackage Placed → Code
code_at g p = code_of (naming_at g p.part) p.item

-- the offset of a label there
abbrev pub offset_at : JointNaming → InPackage Placed → (label : ℕ) → ℕ
offset_at g p label = offset_of (naming_at g p.part) p.item label

-- what a call of a package names on the card
abbrev pub callee_at : JointNaming → InPackage ByLabel.Callee → Callee
callee_at g m = callee (naming_at g m.part) m.item

-- how all that is by name and label is by token and offset
abbrev pub joint_names : JointNaming → Memories → Names (InPackage Placed) (List ℕ) MemberId MemberId (InPackage
    ByLabel.Callee) Cells Code Class Field StaticCell Callee (List Image)
joint_names g memories = record {
  class = g.class;
  field = field (naming_at g 0);
  slots = memories.slots;
  cell = g.cell;
  method = callee_at g;
  statics = memories.statics;
  code = code_at g;
  to = offset_at g;
}

-- A method is one of those of its package, which is one of the group.
pub record IsOfGroup (loaded : Loaded) (placed : ℕ → List Placed) (p : InPackage Placed) : Type 0 where
  pub component : Part
  pub there : slice_get loaded.parts p.part ≡ Some component
  pub among : IsAmong (placed p.part) p.item

-- Each package holds its methods, one behind the other.
abbrev pub AllHold : JointNaming → (placed : ℕ → List Placed) → Type 0
AllHold g placed = (q : ℕ) (part : Part) → (let l = g.loaded in slice_get l.parts q ≡ Some part)
    → HoldsMethods (naming_at g q) part (placed q)

module _ (g : JointNaming) (placed : ℕ → List Placed) (memories : Memories) (l : Named) (calls : JointCalls Placed)
    (known : Knows (List ℕ) MemberId MemberId Cells) (KnownMethod : InPackage ByLabel.Callee → Type 0) where
  -- What operations name, how many words calls take, what calls and scripts reach, by the package that asks; and that
  -- whatever is there is of java/lang/Object.
  pub record JointCallsAgree : Type 0 where
    pub operation_known : (p : InPackage Placed) (k : ℕ) (insn : NInsn) → IsOfGroup g.loaded placed p
        → (let m = p.item in let n = m.method in slice_get n.insns k ≡ Some insn)
        → KnownOperation known KnownMethod (operation_in p.part (operation insn))
    pub on_object : (m : InPackage ByLabel.Callee) → KnownMethod m → Calls.on_object (callee_at g m)
        ≡ ByLabel.on_object m.item
    pub words : (m : InPackage ByLabel.Callee) (w : ℕ) → KnownMethod m → calls.words m ≡ Some w
        → Calls.words g.loaded (callee_at g m) ≡ Some w
    pub reached : (m : InPackage ByLabel.Callee) (o : Option (Shape (List ℕ))) (r : Reached (InPackage Placed))
        → KnownMethod m → KnownKind (joint_names g memories) known (IsOfGroup g.loaded placed) KnownMethod o
        → calls.reached m o ≡ r → IsFound r
        → Calls.reached g.loaded (callee_at g m) (option_as (shape_as g.class) o)
        ≡ reached_as (code_at g) (offset_at g) r
    pub reached_known : (m : InPackage ByLabel.Callee) (o : Option (Shape (List ℕ))) (start : Start (InPackage Placed))
        → KnownMethod m → KnownKind (joint_names g memories) known (IsOfGroup g.loaded placed) KnownMethod o
        → calls.reached m o ≡ Within start → IsOfGroup g.loaded placed start.code
    pub is_object : (t : HeapObject (List ℕ) MemberId) → KnownHeapObject known t → IsObject l (shape t)
    pub called : (id : MemberId) → Calls.called g.loaded id ≡ option_as (start_as (code_at g) (offset_at g))
        (calls.called id)
    pub called_known : (id : MemberId) (start : Start (InPackage Placed)) → calls.called id ≡ Some start
        → IsOfGroup g.loaded placed start.code
    pub sent : (kind : Shape (List ℕ)) (id : MemberId) → KnownThing (joint_names g memories) known (IsOfGroup g.loaded
        placed) KnownMethod kind → Calls.sent g.loaded (shape_as g.class kind) id
        ≡ option_as (start_as (code_at g) (offset_at g)) (calls.sent kind id)
    pub sent_known : (kind : Shape (List ℕ)) (id : MemberId) (start : Start (InPackage Placed))
        → KnownThing (joint_names g memories) known (IsOfGroup g.loaded placed) KnownMethod kind
        → calls.sent kind id ≡ Some start → IsOfGroup g.loaded placed start.code

module _ (g : JointNaming) (placed : ℕ → List Placed) (memories : Memories) (calls : JointCalls Placed)
    (known : Knows (List ℕ) MemberId MemberId Cells) (KnownMethod : InPackage ByLabel.Callee → Type 0) where
  -- Of this the part that dispatch has to say: how many words calls take, what they reach, and what scripts send.
  pub record JointReachAgree : Type 0 where
    pub words : (m : InPackage ByLabel.Callee) (w : ℕ) → KnownMethod m → calls.words m ≡ Some w
        → Calls.words g.loaded (callee_at g m) ≡ Some w
    pub reached : (m : InPackage ByLabel.Callee) (o : Option (Shape (List ℕ))) (r : Reached (InPackage Placed))
        → KnownMethod m → KnownKind (joint_names g memories) known (IsOfGroup g.loaded placed) KnownMethod o
        → calls.reached m o ≡ r → IsFound r
        → Calls.reached g.loaded (callee_at g m) (option_as (shape_as g.class) o)
        ≡ reached_as (code_at g) (offset_at g) r
    pub reached_known : (m : InPackage ByLabel.Callee) (o : Option (Shape (List ℕ))) (start : Start (InPackage Placed))
        → KnownMethod m → KnownKind (joint_names g memories) known (IsOfGroup g.loaded placed) KnownMethod o
        → calls.reached m o ≡ Within start → IsOfGroup g.loaded placed start.code
    pub sent : (kind : Shape (List ℕ)) (id : MemberId) → KnownThing (joint_names g memories) known (IsOfGroup g.loaded
        placed) KnownMethod kind → Calls.sent g.loaded (shape_as g.class kind) id
        ≡ option_as (start_as (code_at g) (offset_at g)) (calls.sent kind id)
    pub sent_known : (kind : Shape (List ℕ)) (id : MemberId) (start : Start (InPackage Placed))
        → KnownThing (joint_names g memories) known (IsOfGroup g.loaded placed) KnownMethod kind
        → calls.sent kind id ≡ Some start → IsOfGroup g.loaded placed start.code

-- a call that passes this test
abbrev pub IsCalled : (InPackage ByLabel.Callee → Bool) → InPackage ByLabel.Callee → Type 0
IsCalled called m = called m ≡ true

-- ---- methods told apart by their code alone

-- of a placed method its code is left
abbrev pub method_alone : InPackage Placed → InPackage NMethod
method_alone p = let m = p.item in of_package p.part m.method

-- names and labels stay
abbrev pub joint_code_alone : Names (InPackage Placed) (List ℕ) MemberId MemberId (InPackage ByLabel.Callee) Cells
    (InPackage NMethod) (List ℕ) MemberId MemberId (InPackage ByLabel.Callee) Cells
joint_code_alone = record {
  class = λ c. c;
  field = λ f. f;
  slots = λ c slots. slots;
  cell = λ f. f;
  method = λ m. m;
  statics = λ x. x;
  code = method_alone;
  to = λ p label. label;
}

-- whatever a call is, it is known
abbrev pub AnyCall : InPackage ByLabel.Callee → Type 0
AnyCall m = IsKnownCall everything m.item

-- whatever a method is, it is known
abbrev pub AnyMethod : InPackage Placed → Type 0
AnyMethod p = Unit {0}

-- Placed methods are reached where their code is.
pub record JointMethodsAgree (labels : JointCalls NMethod) (places : JointCalls Placed) : Type 0 where
  pub words : (m : InPackage ByLabel.Callee) → labels.words m ≡ places.words m
  pub reached : (m : InPackage ByLabel.Callee) (o : Option (Shape (List ℕ)))
      → labels.reached m o ≡ reached_as method_alone (λ p label. label) (places.reached m o)
  pub called : (id : MemberId) → labels.called id ≡ option_as (start_as method_alone (λ p label. label))
      (places.called id)
  pub sent : (kind : Shape (List ℕ)) (id : MemberId) → labels.sent kind id
      ≡ option_as (start_as method_alone (λ p label. label)) (places.sent kind id)
