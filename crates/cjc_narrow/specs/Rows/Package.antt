-- The look-ups of narrow code over the class files and export files of its package.
use Rattle.std.specs.Prelude.{ℕ, ◌+◌, List, [], map, codes, Option, Some, None, option_map, option_and_then, Bool, true}
use Rattle.std.specs.Prelude.{false, if◌then◌else◌}
use Rattle.cjc_types.specs.Bytes.declared.fault.MemberId.{MemberId}
use Rattle.cjc_types.specs.Bytes.declared.descriptor.Kind.{Kind}
use Rattle.cjc_types.specs.Bytes.declared.descriptor.Kind.TheVariants as kinds
use Rattle.cjc_types.specs.ClassFile.Code.{CodeTree}
use Rattle.cjc_jvm_semantics.specs.LowerScript.declared.script.Script.{Script}
use Rattle.cjc_jvm_semantics.specs.LowerScript.declared.report.FieldValue.{FieldValue}
use Rattle.cjc_jvm_semantics.specs.LowerScript.declared.report.Report.{Report}
use Rattle.cjc_jvm_semantics.specs.LowerScript.Sorts.{Element, Booleans, Bytes, Shorts, Ints, Shape, shape_name}
use Rattle.cjc_jvm_semantics.specs.LowerScript.Sorts.{signature_of}
use Rattle.cjc_ncode.specs.LowerCardSemantics.Bytecode.Calculations.{Fault, Arithmetic, NullPointer, IndexOutside}
use Rattle.cjc_ncode.specs.LowerCardSemantics.Bytecode.Calculations.{NegativeSize}
use Rattle.cjc_ncode.specs.LowerCardSemantics.Bytecode.Calculations.{ClassCast, ArrayStore}
use Rattle.cjc_ncode.specs.LowerCardSemantics.Bytecode.Effects.{Slot, HeapObject, Numbers, Memory}
use Rattle.cjc_ncode.specs.LowerCardSemantics.Bytecode.Machine.{Start, Reached, Nowhere, Within, Abroad}
use Rattle.cjc_types.specs.World.declared.image.ArrayCell.{ArrayCell}
use Rattle.cjc_types.specs.World.declared.image.StaticImage.{StaticImage}
use Rattle.cjc_types.specs.World.Files.{Files}
use Rattle.cjc_types.specs.World.Classes.{Class, all_classes, class_named}
use Rattle.cjc_types.specs.World.Lookup.{find_method, receiver}
use Rattle.cjc_types.specs.World.Subtype.{is_subtype}
use Rattle.cjc_ncode.specs.declared.narrow.NMethod.{NMethod}
use Rattle.cjc_ncode.specs.Written.{narrow_method}
use Rattle.cjc_ncode.specs.ByLabel.{Callee, Fixed, OnObject, OnSuper, OnInterface, Named}
use Rattle.cjc_ncode.specs.ByLabel
use Rattle.cjc_jvm_semantics.specs.Linked.{Method, Inside}
use Rattle.cjc_jvm_semantics.specs.Linked
use Rattle.cjc_jvm_semantics.specs.OnePackage.{ResolvedMember, callee_at, selected_from, select_in, first_super}
use Rattle.cjc_jvm_semantics.specs.OnePackage.{interface_callee, made_of, entry_named, sent_named, is_plain_import}
use Rattle.cjc_jvm_semantics.specs.OnePackage.{cells}
use Rattle.cjc_types.specs.Flow.{Body}
use Rattle.cjc_narrow.specs.Pairs.Roles.{with_pairs}
use Rattle.cjc_narrow.specs.Written.Rows.{has_rows}
use Rattle.cjc_narrow.specs.Rows.Resolved.{method_found, parameter_words, resolution, argument_words}

-- ---- methods

-- how a method of the package begins, by the narrow code that is written for it
abbrev pub start_of : (code : Method → NMethod) → Method → Start NMethod
start_of code m = let n = code m in record {
  code = n;
  at = 0;
  nargs = n.nargs;
  max_locals = n.max_locals;
  is_abstract = m.is_abstract;
}

-- what a call reaches, of what is found or selected
abbrev pub reached_by : (code : Method → NMethod) → Option Linked.Callee → Reached NMethod
reached_by code None = Nowhere
reached_by code (Some (Inside m)) = Within (start_of code m)
reached_by code (Some (Linked.Abroad event)) = Abroad event

-- the flags of a method that is found
abbrev pub flags_of : Option ResolvedMember → ℕ
flags_of None = 0
flags_of (Some hit) = hit.flags

-- a method's code without its bytes
abbrev pub tree_of : Method → CodeTree
tree_of m = record { max_stack = m.max_stack; max_locals = m.max_locals; bytes = []; catches = m.catches }

-- what inference reads of it
abbrev pub read_of : Method → (flags : ℕ) → Body
read_of m flags = let id = m.id in record {
  class = id.class;
  flags = flags;
  desc = id.desc;
  max_stack = m.max_stack;
  max_locals = m.max_locals;
  catches = m.catches;
  insns = m.insns;
}

-- The narrow code that is written for a method of the package, by the rows of its least table, where these instance
-- fields have an index of one byte.
abbrev pub code_of : {A : Type 0} → Files → (near : List MemberId) → (rows : Method → List (Option A)) → Method
    → NMethod
code_of files near rows m =
    let id = m.id in
    let flags = flags_of (method_found (all_classes files) id) in
    narrow_method (with_pairs (resolution files near id.class) (read_of m flags) (has_rows (rows m))) (tree_of m)
    (argument_words flags id.desc) m.insns (rows m)

-- ---- calls

-- a method that is found, by the class that declares it
abbrev pub direct : Files → List Class → MemberId → Option Linked.Callee
direct files w m = option_and_then (λ f. callee_at files m.class m f) (find_method w m.class m.name m.desc)

-- what is selected from the superclass of a class
abbrev pub above : Files → List Class → MemberId → Option Linked.Callee
above files w m = option_and_then (λ super. selected_from files w (select_in w) super m)
    (first_super (class_named w m.class))

-- what a call selects on a receiver of a type
abbrev pub selected_on : Files → List Class → Callee → (type : List ℕ) → Option Linked.Callee
selected_on files w (Fixed on m) type = direct files w m
selected_on files w (OnObject m) type = selected_from files w (select_in w) type m
selected_on files w (OnSuper m) type = above files w m
selected_on files w (OnInterface words m) type = interface_callee files w (select_in w) m.class type m
    (class_named w (receiver type))

-- the class whose objects a call takes
abbrev pub class_of_callee : Callee → List ℕ
class_of_callee (Fixed on m) = m.class
class_of_callee (OnObject m) = m.class
class_of_callee (OnSuper m) = m.class
class_of_callee (OnInterface words m) = m.class

-- without receiver, a static method alone
abbrev pub on_class : Files → List Class → Callee → Option Linked.Callee
on_class files w (Fixed false m) = direct files w m
on_class files w callee = None

-- What a call reaches: on a receiver that is not of the class that it names, nothing.
abbrev pub reached : Files → List Class → (code : Method → NMethod) → Callee → Option (Shape (List ℕ)) → Reached NMethod
reached files w code callee None = reached_by code (on_class files w callee)
reached files w code callee (Some kind) =
    if is_subtype w (shape_name kind) (class_of_callee callee)
    then reached_by code (selected_on files w callee (shape_name kind)) else Nowhere

-- ---- words of arguments

-- those of the parameters, and of the receiver
abbrev pub words_with : (on_object : Bool) → MemberId → ℕ
words_with on m = (if on then 1 else 0) + parameter_words (signature_of m.desc)

-- where a method is there
abbrev pub words_where : {A : Type 0} → (on_object : Bool) → MemberId → Option A → Option ℕ
words_where on m found = option_map (λ f. words_with on m) found

-- How many words a call takes: none where its member is nowhere. An interface's method has the number in its
-- instruction.
abbrev pub words : Files → List Class → Callee → Option ℕ
words files w (Fixed on m) = words_where on m (method_found w m)
words files w (OnObject m) = words_where true m (method_found w m)
words files w (OnSuper m) = words_where true m (above files w m)
words files w (OnInterface n m) = Some n

-- ---- names

-- the class of an exception of the machine's own
abbrev pub fault_name : Fault → List ℕ
fault_name Arithmetic = codes "java/lang/ArithmeticException"
fault_name NullPointer = codes "java/lang/NullPointerException"
fault_name IndexOutside = codes "java/lang/ArrayIndexOutOfBoundsException"
fault_name NegativeSize = codes "java/lang/NegativeArraySizeException"
fault_name ClassCast = codes "java/lang/ClassCastException"
fault_name ArrayStore = codes "java/lang/ArrayStoreException"

-- a class that some file has
abbrev pub name_there : List Class → List ℕ → Option (List ℕ)
name_there w name = option_map (λ c. c.name) (class_named w name)

-- an imported class that is no interface
abbrev pub plain_import : List Class → List ℕ → Option (List ℕ)
plain_import w name = if is_plain_import (class_named w name) then Some name else None

-- one that is java/lang/Throwable or a subclass of it
abbrev pub throwable_import : List Class → List ℕ → Option (List ℕ)
throwable_import w name = if is_subtype w name (codes "java/lang/Throwable") then plain_import w name else None

-- ---- before the first entry

-- the elements of an array of the image
abbrev pub element_of_kind : Kind → Element
element_of_kind kinds.Bool = Booleans
element_of_kind kinds.Byte = Bytes
element_of_kind kinds.Short = Shorts
element_of_kind _ = Ints

-- an array of the image
abbrev pub first_array : ArrayCell → HeapObject (List ℕ) MemberId
first_array a = Numbers (element_of_kind a.kind) a.items

-- a static cell
abbrev pub first_cell : FieldValue → Slot MemberId
first_cell cell = record { key = cell.field; value = cell.value }

-- the arrays of the image, and the static cells
abbrev pub first_memory : Files → StaticImage → Memory (List ℕ) MemberId (List (Slot MemberId))
first_memory files image = record {
  heap = map first_array image.arrays;
  statics = map first_cell (cells image files.classes);
}

-- ---- the look-ups

-- over the classes of all files
abbrev pub named_by : Files → StaticImage → List Class → (code : Method → NMethod) → Named
named_by files image w code = record {
  is_of = λ sub sup. is_subtype w (shape_name sub) (shape_name sup);
  fields = made_of w;
  reached = reached files w code;
  words = words files w;
  fault = λ fault. name_there w (fault_name fault);
  class_named = name_there w;
  imported = plain_import w;
  throwable = throwable_import w;
  called = λ id. option_map (start_of code) (entry_named files w id);
  sent = λ kind id. option_map (start_of code) (sent_named files w (shape_name kind) id);
  memory = first_memory files image;
}

-- The look-ups of a package in which this narrow code is written for its methods.
unfoldable pub named : Files → StaticImage → (code : Method → NMethod) → Named
named files image code = named_by files image (all_classes files) code

-- The run of n instructions of narrow code.
abbrev pub run : Files → StaticImage → (code : Method → NMethod) → Script → ℕ → Report
run files image code script n = ByLabel.run (named files image code) script n
