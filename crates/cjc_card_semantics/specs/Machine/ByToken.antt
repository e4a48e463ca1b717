-- The run of components by token, on words of 16 bits: the machine of a group of packages (Java Card Virtual Machine
-- Specification 2.2.2, chapters 3, 4, 6 and 7).
use Rattle.std.specs.Prelude.{ℕ, zero, suc, ◌+◌, List, [], ◌∷◌, ◌++◌, map, Option, Some, None, option_and_then}
use Rattle.cjc_script.specs.declared.value.Value.{Value}
use Rattle.cjc_script.specs.declared.script.Script.{Script}
use Rattle.cjc_script.specs.declared.report.FieldValue.{FieldValue}
use Rattle.cjc_script.specs.declared.report.Report.{Report}
use Rattle.cjc_script.specs.Sorts.{Sort, Boolean, Byte, Short, Int, Reference, NoValue, field_sort, zero_of}
use Rattle.cjc_card_semantics.specs.Bytecode.Effects.{Letter, Slot, Classes, slot_of}
use Rattle.cjc_card_semantics.specs.Bytecode.Effects
use Rattle.cjc_card_semantics.specs.Bytecode.Machine.{Setting, State}
use Rattle.cjc_card_semantics.specs.Bytecode.Machine
use Rattle.cjc_card_semantics.specs.Machine.Loaded.{FieldName, ClassNames, CellName, Part, Loaded}
use Rattle.cjc_card_semantics.specs.Machine.Classes.{Class, Own, External, Field, same_field, is_of, fresh, name_of}
use Rattle.cjc_card_semantics.specs.Machine.Classes.{names_of, class_named, fault_class, superclass, depth}
use Rattle.cjc_card_semantics.specs.Machine.Statics.{Image, StaticCell, get_static, put_static, first_memory}
use Rattle.cjc_card_semantics.specs.Machine.Operations.{Callee}
use Rattle.cjc_card_semantics.specs.Machine.Methods.{Code, fetch, handler}
use Rattle.cjc_card_semantics.specs.Machine.Calls.{on_object, words, reached, called, sent, imported, throwable}

-- ---- what a report shows

-- a value, or else
abbrev pub value_or : Value → Option Value → Value
value_or v None = v
value_or v (Some w) = w

-- the field of this name, whose token the object may not have
abbrev pub shown_field : Class → (class : List ℕ) → List (Slot Field) → FieldName → FieldValue
shown_field c class slots f = record {
  field = record { class = class; name = f.name; desc = f.desc };
  value = value_or (zero_of (field_sort f.desc)) (slot_of same_field slots (record { class = c; token = f.token }));
}

-- the fields that a class itself declares
abbrev pub shown_own : Class → List (Slot Field) → Option ClassNames → List FieldValue
shown_own c slots None = []
shown_own c slots (Some names) = map (shown_field c names.name slots) names.fields

-- the fields that the naming gives the class infos, a superclass's before its own
abbrev pub shown_upwards : Loaded → (depth : ℕ) → Option Class → List (Slot Field) → List FieldValue
shown_upwards l zero class slots = []
shown_upwards l (suc n) None slots = []
shown_upwards l (suc n) (Some (External tree token)) slots = []
shown_upwards l (suc n) (Some (Own p offset)) slots =
    shown_upwards l n (superclass l p offset) slots ++ shown_own (Own p offset) slots (names_of l p offset)

-- the fields of an object
abbrev pub shown_fields : Loaded → Class → List (Slot Field) → List FieldValue
shown_fields l c slots = shown_upwards l (depth l) (Some c) slots

-- the letter by which a static field of a type is read
abbrev pub letter_of : Sort → Option Letter
letter_of Boolean = Some Effects.Byte
letter_of Byte = Some Effects.Byte
letter_of Short = Some Effects.Short
letter_of Int = Some Effects.Int
letter_of (Reference shape) = Some Effects.Reference
letter_of NoValue = None

-- a static cell by its name and type
abbrev pub shown_cell : (part : ℕ) → List Image → CellName → FieldValue
shown_cell p images c =
    let id = c.id in
    let sort = field_sort id.desc in
    record {
      field = c.id;
      value = value_or (zero_of sort) (option_and_then (λ letter. get_static letter (record {
        part = p;
        offset = c.offset;
      }) images) (letter_of sort));
    }

-- the static cells of all packages, package by package
abbrev pub shown_cells : (part : ℕ) → List Part → List Image → List FieldValue
shown_cells p [] images = []
shown_cells p (part ∷ parts) images = map (shown_cell p images) part.cells ++ shown_cells (p + 1) parts images

-- ---- the machine

-- what instructions ask of classes
abbrev pub classes : Loaded → Classes Class Field StaticCell (List Image)
classes l = record {
  is_of = is_of l;
  same_field = same_field;
  fresh = fresh l;
  get_static = get_static;
  put_static = put_static;
}

-- the look-ups of a group
unfoldable pub by_token : Loaded → Setting Code Class Field StaticCell Callee (List Image)
by_token l = record {
  classes = classes l;
  room = λ code. code.room;
  fetch = fetch l;
  handler = handler l;
  on_object = on_object;
  words = words l;
  reached = reached l;
  fault = fault_class l;
  class_named = class_named l;
  imported = imported l;
  throwable = throwable l;
  called = called l;
  sent = sent l;
  name = name_of l;
  fields = shown_fields l;
  cells = shown_cells 0 l.parts;
}

-- before the first entry
abbrev pub start : Loaded → Script → State Code Class Field (List Image)
start l script = Machine.start (first_memory l) script

-- The run of n instructions.
abbrev pub run : Loaded → Script → ℕ → Report
run l script n = Machine.run (by_token l) n (start l script)
