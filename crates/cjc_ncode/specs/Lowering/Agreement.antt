-- What is left to the tables of classes, tokens, static cells and names, for narrow code and components to run alike:
-- the code is not among it.
use Rattle.std.specs.Prelude.{◌≡◌, ℕ, List, [], map, Option, Some, Bool, true, slice_get}
use Rattle.cjc_code.specs.Bytes.declared.fault.MemberId.{MemberId}
use Rattle.cjc_card_semantics.specs.Script.Sorts.{Shape}
use Rattle.cjc_card_semantics.specs.Bytecode.Calculations.{Fault}
use Rattle.cjc_card_semantics.specs.Bytecode.Effects.{Letter, Slot, HeapObject, Object, shape}
use Rattle.cjc_card_semantics.specs.Bytecode.Renaming.{option_as, shape_as, Knows, KnownHeapObject, KnownOperation}
use Rattle.cjc_card_semantics.specs.Bytecode.Renaming.{AreAlike}
use Rattle.cjc_card_semantics.specs.Bytecode.Machine.{Start, Reached, Within}
use Rattle.cjc_card_semantics.specs.Bytecode.Alike.{Names, KnownThing, KnownKind, IsFound, start_as, reached_as}
use Rattle.cjc_card_semantics.specs.Machine.Classes.{Class, Field, fault_class, name_of}
use Rattle.cjc_card_semantics.specs.Machine.Classes
use Rattle.cjc_card_semantics.specs.Machine.Statics.{Image, StaticCell}
use Rattle.cjc_card_semantics.specs.Machine.Operations.{Callee}
use Rattle.cjc_card_semantics.specs.Machine.Methods.{Code}
use Rattle.cjc_card_semantics.specs.Machine.Calls
use Rattle.cjc_card_semantics.specs.Machine.ByToken
use Rattle.cjc_ncode.specs.declared.narrow.NInsn.{NInsn}
use Rattle.cjc_ncode.specs.declared.narrow.NMethod.{NMethod}
use Rattle.cjc_ncode.specs.ByLabel.{Named, operation, shown_slot}
use Rattle.cjc_ncode.specs.ByLabel
use Rattle.cjc_ncode.specs.Lowering.Naming.{Naming, IsClass, field, callee}
use Rattle.cjc_ncode.specs.Lowering.Handlers.{IsObject}
use Rattle.cjc_ncode.specs.Lowering.Placed.{Placed, offset_of, code_of}
use Rattle.cjc_ncode.specs.Lowering.ByPlace.{Methods}

-- the static cells by name
abbrev pub Cells : Type 0
Cells = List (Slot MemberId)

-- what an object of a class holds by token, and the images that hold static cells
pub record Memories : Type 0 where
  pub slots : (class : List ℕ) → List (Slot MemberId) → List (Slot Field)
  pub statics : Cells → List Image

-- how all that is by name and label is by token and offset
abbrev pub names : Naming → Memories → Names Placed (List ℕ) MemberId MemberId ByLabel.Callee Cells Code Class Field
    StaticCell Callee (List Image)
names n memories = record {
  class = n.class;
  field = field n;
  slots = memories.slots;
  cell = n.cell;
  method = callee n;
  statics = memories.statics;
  code = code_of n;
  to = offset_of n;
}

-- Which names are known, each told by a test: classes, fields, static cells as they are read and put, contents of all
-- static cells, classes with the fields of their objects, and calls.
pub record KnownNames : Type 0 where
  pub class : List ℕ → Bool
  pub field : MemberId → Bool
  pub cell : Letter → MemberId → Bool
  pub statics : Cells → Bool
  pub object : List ℕ → List MemberId → Bool
  pub call : ByLabel.Callee → Bool

-- those that pass their tests
abbrev pub known_by : KnownNames → Knows (List ℕ) MemberId MemberId Cells
known_by tests = record {
  class = λ c. tests.class c ≡ true;
  field = λ f. tests.field f ≡ true;
  cell = λ letter f. tests.cell letter f ≡ true;
  statics = λ x. tests.statics x ≡ true;
  object = λ c fields. tests.object c fields ≡ true;
}

-- a call that passes its test
abbrev pub IsKnownCall : KnownNames → ByLabel.Callee → Type 0
IsKnownCall tests m = tests.call m ≡ true

-- a method is one of these
pub record IsAmong (placed : List Placed) (p : Placed) : Type 0 where
  pub place : ℕ
  pub there : slice_get placed place ≡ Some p

module _ (n : Naming) (placed : List Placed) (memories : Memories) (l : Named) (methods : Methods)
    (known : Knows (List ℕ) MemberId MemberId Cells) (KnownMethod : ByLabel.Callee → Type 0) where
  -- The look-ups by token are those by name, for known names, where those find something; what they give is known.
  pub record TablesAgree : Type 0 where
    pub classes : AreAlike known n.class (field n) memories.slots n.cell memories.statics (ByLabel.classes l)
        (ByToken.classes n.loaded)
    pub class_known : (c : List ℕ) → IsClass n c → known.class c
    pub operation_known : (p : Placed) (k : ℕ) (insn : NInsn) → IsAmong placed p
        → (let m = p.method in slice_get m.insns k ≡ Some insn) → KnownOperation known KnownMethod (operation insn)
    pub on_object : (m : ByLabel.Callee) → KnownMethod m → Calls.on_object (callee n m) ≡ ByLabel.on_object m
    pub words : (m : ByLabel.Callee) (w : ℕ) → KnownMethod m → l.words m ≡ Some w → Calls.words n.loaded (callee n m)
        ≡ Some w
    pub reached : (m : ByLabel.Callee) (o : Option (Shape (List ℕ))) (r : Reached Placed) → KnownMethod m
        → KnownKind (names n memories) known (IsAmong placed) KnownMethod o → methods.reached m o ≡ r → IsFound r
        → Calls.reached n.loaded (callee n m) (option_as (shape_as n.class) o) ≡ reached_as (code_of n) (offset_of n) r
    pub reached_known : (m : ByLabel.Callee) (o : Option (Shape (List ℕ))) (start : Start Placed) → KnownMethod m
        → KnownKind (names n memories) known (IsAmong placed) KnownMethod o → methods.reached m o ≡ Within start
        → IsAmong placed start.code
    -- whatever is there is of java/lang/Object by name
    pub is_object : (t : HeapObject (List ℕ) MemberId) → KnownHeapObject known t → IsObject l (shape t)
    pub fault : (f : Fault) → fault_class n.loaded f ≡ option_as n.class (l.fault f)
    pub fault_known : (f : Fault) (c : List ℕ) → l.fault f ≡ Some c → KnownHeapObject known (Object c [])
    pub class_named : (name : List ℕ) → Classes.class_named n.loaded name ≡ option_as n.class (l.class_named name)
    pub class_named_known : (name c : List ℕ) → l.class_named name ≡ Some c → known.class c
    pub imported : (name : List ℕ) → Calls.imported n.loaded name ≡ option_as n.class (l.imported name)
    pub imported_known : (name c : List ℕ) → l.imported name ≡ Some c → KnownHeapObject known (Object c [])
    pub throwable : (name : List ℕ) → Calls.throwable n.loaded name ≡ option_as n.class (l.throwable name)
    pub throwable_known : (name c : List ℕ) → l.throwable name ≡ Some c → KnownHeapObject known (Object c [])
    pub called : (id : MemberId) → Calls.called n.loaded id ≡ option_as (start_as (code_of n) (offset_of n))
        (methods.called id)
    pub called_known : (id : MemberId) (start : Start Placed) → methods.called id ≡ Some start
        → IsAmong placed start.code
    pub sent : (kind : Shape (List ℕ)) (id : MemberId) → KnownThing (names n memories) known (IsAmong placed)
        KnownMethod kind → Calls.sent n.loaded (shape_as n.class kind) id
        ≡ option_as (start_as (code_of n) (offset_of n)) (methods.sent kind id)
    pub sent_known : (kind : Shape (List ℕ)) (id : MemberId) (start : Start Placed)
        → KnownThing (names n memories) known (IsAmong placed) KnownMethod kind → methods.sent kind id ≡ Some start
        → IsAmong placed start.code
    pub name : (c : List ℕ) → known.class c → name_of n.loaded (n.class c) ≡ c
    pub fields : (c : List ℕ) (slots : List (Slot MemberId)) → KnownHeapObject known (Object c slots)
        → ByToken.shown_fields n.loaded (n.class c) (memories.slots c slots) ≡ map shown_slot slots
    pub cells : (x : Cells) → known.statics x → (let l = n.loaded in ByToken.shown_cells 0 l.parts (memories.statics x)
        ≡ map shown_slot x)

-- ---- methods told apart by their code alone

-- every name is known
abbrev pub everything : KnownNames
everything = record {
  class = λ c. true;
  field = λ f. true;
  cell = λ letter f. true;
  statics = λ x. true;
  object = λ c fields. true;
  call = λ m. true;
}

-- names and labels stay, and of a placed method its code is left
abbrev pub code_alone : Names Placed (List ℕ) MemberId MemberId ByLabel.Callee Cells NMethod (List ℕ) MemberId MemberId
    ByLabel.Callee Cells
code_alone = record {
  class = λ c. c;
  field = λ f. f;
  slots = λ c slots. slots;
  cell = λ f. f;
  method = λ m. m;
  statics = λ x. x;
  code = λ p. p.method;
  to = λ p label. label;
}

-- Placed methods are reached where their code is.
pub record MethodsAgree (l : Named) (methods : Methods) : Type 0 where
  pub reached : (m : ByLabel.Callee) (o : Option (Shape (List ℕ)))
      → l.reached m o ≡ reached_as (λ p. p.method) (λ p label. label) (methods.reached m o)
  pub called : (id : MemberId) → l.called id ≡ option_as (start_as (λ p. p.method) (λ p label. label))
      (methods.called id)
  pub sent : (kind : Shape (List ℕ)) (id : MemberId)
      → l.sent kind id ≡ option_as (start_as (λ p. p.method) (λ p label. label)) (methods.sent kind id)
