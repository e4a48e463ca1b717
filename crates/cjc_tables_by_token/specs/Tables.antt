-- What tables say by token of classes, objects, static fields and names is what the look-ups of narrow code find by name.
use Rattle.std.specs.Prelude.{◌≡◌, ℕ, List, [], map, Some}
use Rattle.cjc_bytes.specs.declared.fault.MemberId.{MemberId}
use Rattle.cjc_bytecode.specs.Calculations.{Fault}
use Rattle.cjc_bytecode.specs.Effects.{Slot, Object}
use Rattle.cjc_bytecode.specs.Renaming.{option_as, Knows, KnownHeapObject, AreAlike}
use Rattle.cjc_card.specs.ByToken
use Rattle.cjc_card.specs.Calls
use Rattle.cjc_card.specs.Classes.{fault_class, name_of}
use Rattle.cjc_card.specs.Classes
use Rattle.cjc_ncode.specs.ByLabel.{Named, shown_slot}
use Rattle.cjc_ncode.specs.ByLabel
use Rattle.cjc_lower.specs.Agreement.{Cells, Memories}
use Rattle.cjc_lower.specs.Naming.{Naming, IsClass, field}

module _ (n : Naming) (memories : Memories) (l : Named) (known : Knows (List ℕ) MemberId MemberId Cells) where
  -- All that TablesAgree asks but for what it asks of operations and calls.
  pub record ClassTablesAgree : Type 0 where
    pub classes : AreAlike known n.class (field n) memories.slots n.cell memories.statics (ByLabel.classes l) (ByToken.classes n.loaded)
    pub class_known : (c : List ℕ) → IsClass n c → known.class c
    pub fault : (f : Fault) → fault_class n.loaded f ≡ option_as n.class (l.fault f)
    pub fault_known : (f : Fault) (c : List ℕ) → l.fault f ≡ Some c → KnownHeapObject known (Object c [])
    pub class_named : (name : List ℕ) → Classes.class_named n.loaded name ≡ option_as n.class (l.class_named name)
    pub class_named_known : (name c : List ℕ) → l.class_named name ≡ Some c → known.class c
    pub imported : (name : List ℕ) → Calls.imported n.loaded name ≡ option_as n.class (l.imported name)
    pub imported_known : (name c : List ℕ) → l.imported name ≡ Some c → KnownHeapObject known (Object c [])
    pub throwable : (name : List ℕ) → Calls.throwable n.loaded name ≡ option_as n.class (l.throwable name)
    pub throwable_known : (name c : List ℕ) → l.throwable name ≡ Some c → KnownHeapObject known (Object c [])
    pub name : (c : List ℕ) → known.class c → name_of n.loaded (n.class c) ≡ c
    pub fields : (c : List ℕ) (slots : List (Slot MemberId)) → KnownHeapObject known (Object c slots) → ByToken.shown_fields n.loaded (n.class c) (memories.slots c slots) ≡ map shown_slot slots
    pub cells : (x : Cells) → known.statics x → (let l = n.loaded in ByToken.shown_cells 0 l.parts (memories.statics x) ≡ map shown_slot x)
