-- What tables say by token of classes, objects, static fields and names is what the look-ups of narrow code find by
-- name.
use Rattle.std.specs.Prelude.{◌≡◌, ℕ, List, [], map, Option, Some, slice_get}
use Rattle.cjc_bytes.specs.declared.fault.MemberId.{MemberId}
use Rattle.cjc_card_semantics.specs.Bytecode.Calculations.{Fault}
use Rattle.cjc_card_semantics.specs.Bytecode.Effects.{Slot, HeapObject, Object, shape}
use Rattle.cjc_card_semantics.specs.Bytecode.Renaming.{option_as, shape_as, Knows, KnownHeapObject, KnownOperation}
use Rattle.cjc_card_semantics.specs.Bytecode.Renaming.{AreAlike}
use Rattle.cjc_card_semantics.specs.Bytecode.Machine.{Start, Reached, Within}
use Rattle.cjc_card_semantics.specs.Bytecode.Alike.{KnownThing, KnownKind, IsFound, start_as, reached_as}
use Rattle.cjc_script.specs.Sorts.{Shape}
use Rattle.cjc_card_semantics.specs.Machine.ByToken
use Rattle.cjc_card_semantics.specs.Machine.Calls
use Rattle.cjc_card_semantics.specs.Machine.Classes.{fault_class, name_of}
use Rattle.cjc_card_semantics.specs.Machine.Classes
use Rattle.cjc_ncode.specs.declared.narrow.NInsn.{NInsn}
use Rattle.cjc_ncode.specs.ByLabel.{Named, operation, shown_slot}
use Rattle.cjc_ncode.specs.ByLabel
use Rattle.cjc_ncode.specs.Lowering.Agreement.{Cells, Memories, names, IsAmong}
use Rattle.cjc_ncode.specs.Lowering.ByPlace.{Methods}
use Rattle.cjc_ncode.specs.Lowering.Handlers.{IsObject}
use Rattle.cjc_ncode.specs.Lowering.Naming.{Naming, IsClass, field, callee}
use Rattle.cjc_ncode.specs.Lowering.Placed.{Placed, offset_of, code_of}

module _ (n : Naming) (memories : Memories) (l : Named) (known : Knows (List ℕ) MemberId MemberId Cells) where
  -- All that TablesAgree asks but for what it asks of operations, of calls and of java/lang/Object.
  pub record ClassTablesAgree : Type 0 where
    pub classes : AreAlike known n.class (field n) memories.slots n.cell memories.statics (ByLabel.classes l)
        (ByToken.classes n.loaded)
    pub class_known : (c : List ℕ) → IsClass n c → known.class c
    pub fault : (f : Fault) → fault_class n.loaded f ≡ option_as n.class (l.fault f)
    pub fault_known : (f : Fault) (c : List ℕ) → l.fault f ≡ Some c → KnownHeapObject known (Object c [])
    pub class_named : (name : List ℕ) → Classes.class_named n.loaded name ≡ option_as n.class (l.class_named name)
    pub class_named_known : (name c : List ℕ) → l.class_named name ≡ Some c → known.class c
    pub imported : (name : List ℕ) → Calls.imported n.loaded name ≡ option_as n.class (l.imported name)
    pub imported_known : (name c : List ℕ) → l.imported name ≡ Some c → KnownHeapObject known (Object c [])
    pub throwable : (name : List ℕ) → Calls.throwable n.loaded name ≡ option_as n.class (l.throwable name)
    pub throwable_known : (name c : List ℕ) → l.throwable name ≡ Some c → KnownHeapObject known (Object c [])
    pub name : (c : List ℕ) → known.class c → name_of n.loaded (n.class c) ≡ c
    pub fields : (c : List ℕ) (slots : List (Slot MemberId)) → KnownHeapObject known (Object c slots)
        → ByToken.shown_fields n.loaded (n.class c) (memories.slots c slots) ≡ map shown_slot slots
    pub cells : (x : Cells) → known.statics x → (let l = n.loaded in ByToken.shown_cells 0 l.parts (memories.statics x)
        ≡ map shown_slot x)

module _ (n : Naming) (placed : List Placed) (memories : Memories) (l : Named) (methods : Methods)
    (known : Knows (List ℕ) MemberId MemberId Cells) (KnownMethod : ByLabel.Callee → Type 0) where
  -- What is left of it: what operations name, how many words calls take, what calls and scripts reach, and that
  -- whatever is there is of
  -- java/lang/Object.
  pub record CallTablesAgree : Type 0 where
    pub operation_known : (p : Placed) (k : ℕ) (insn : NInsn) → IsAmong placed p
        → (let m = p.method in slice_get m.insns k ≡ Some insn) → KnownOperation known KnownMethod (operation insn)
    pub on_object : (m : ByLabel.Callee) → KnownMethod m → Calls.on_object (callee n m) ≡ ByLabel.on_object m
    pub words : (m : ByLabel.Callee) (w : ℕ) → KnownMethod m → l.words m ≡ Some w → Calls.words n.loaded (callee n m)
        ≡ Some w
    pub reached : (m : ByLabel.Callee) (o : Option (Shape (List ℕ))) (r : Reached Placed) → KnownMethod m
        → KnownKind (names n memories) known (IsAmong placed) KnownMethod o → methods.reached m o ≡ r → IsFound r
        → Calls.reached n.loaded (callee n m) (option_as (shape_as n.class) o) ≡ reached_as (code_of n) (offset_of n) r
    pub reached_known : (m : ByLabel.Callee) (o : Option (Shape (List ℕ))) (start : Start Placed) → KnownMethod m
        → KnownKind (names n memories) known (IsAmong placed) KnownMethod o → methods.reached m o ≡ Within start
        → IsAmong placed start.code
    pub is_object : (t : HeapObject (List ℕ) MemberId) → KnownHeapObject known t → IsObject l (shape t)
    pub called : (id : MemberId) → Calls.called n.loaded id ≡ option_as (start_as (code_of n) (offset_of n))
        (methods.called id)
    pub called_known : (id : MemberId) (start : Start Placed) → methods.called id ≡ Some start
        → IsAmong placed start.code
    pub sent : (kind : Shape (List ℕ)) (id : MemberId) → KnownThing (names n memories) known (IsAmong placed)
        KnownMethod kind → Calls.sent n.loaded (shape_as n.class kind) id
        ≡ option_as (start_as (code_of n) (offset_of n)) (methods.sent kind id)
    pub sent_known : (kind : Shape (List ℕ)) (id : MemberId) (start : Start Placed)
        → KnownThing (names n memories) known (IsAmong placed) KnownMethod kind → methods.sent kind id ≡ Some start
        → IsAmong placed start.code
