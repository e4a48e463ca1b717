-- What the card's machine reads of the components and of the export files, and the names by which its run is reported.
use Rattle.std.specs.Prelude.{ℕ, ℤ, codes, ◌+◌, ◌-◌, ◌*◌, ◌/◌, ◌%◌, List, [], ◌∷◌, ◌++◌, length, drop, flat_map, filter, Option, Some, None, Bool, false, nat_le, ◌==◌, ◌&&◌, ◌||◌, not, if◌then◌else◌, slice_get}
use Rattle.cjc_bytes.specs.declared.fault.MemberId.{MemberId}
use Rattle.cjc_capread.specs.declared.tree.ClassRef.{ClassRef}
use Rattle.cjc_capread.specs.declared.tree.ClassRef.TheVariants.{Inside, Outside}
use Rattle.cjc_capread.specs.declared.tree.Handler.{Handler}
use Rattle.cjc_capread.specs.declared.tree.Method.{Method}
use Rattle.cjc_capread.specs.declared.tree.Descriptor.{Descriptor}
use Rattle.cjc_capread.specs.declared.tree.ClassDescriptor.{ClassDescriptor}
use Rattle.cjc_capread.specs.declared.tree.MethodDescriptor.{MethodDescriptor}
use Rattle.cjc_capread.specs.declared.tree.CapTree.{CapTree}
use Rattle.cjc_capread.specs.ClassRefs.{is_inside}
use Rattle.cjc_classfile.specs.declared.tree.MethodTree.{MethodTree}
use Rattle.cjc_classfile.specs.declared.tree.ClassTree.{ClassTree}
use Rattle.cjc_export.specs.declared.tree.ExportClass.{ExportClass}
use Rattle.cjc_export.specs.declared.tree.ExportTree.{ExportTree}
use Rattle.cjc_first.specs.Scripts.Names.{same_text, same_id, is_among}
use Rattle.cjc_first.specs.TokenMachine.Cells.{Store, Fault, Arithmetic, NullPointer, IndexOutside, NegativeSize, ClassCast, ArrayStore}

-- ---- names

pub record ClassName : Type 0 where
  pub class : ClassRef
  pub name : List ℕ

-- a method by the offset of its header
pub record MethodName : Type 0 where
  pub offset : ℕ
  pub id : MemberId

-- an instance field by its class and token
pub record FieldName : Type 0 where
  pub class : ClassRef
  pub token : ℕ
  pub id : MemberId

-- a static cell by its offset in the image
pub record CellName : Type 0 where
  pub offset : ℕ
  pub id : MemberId

-- the names of class infos, methods, field tokens and static cells; the fields of a class with those of its superclass first,
-- the cells in the order of the report
pub record Naming : Type 0 where
  pub classes : List ClassName
  pub methods : List MethodName
  pub fields : ClassRef → List FieldName
  pub cells : List CellName

-- ---- what is read

-- what a call reaches: a method by its offset, an imported one by its name, or one that returns at once
pub data Callee : Type 0 where
  Within : (offset : ℕ) → Callee
  Imported : (id : MemberId) → Callee
  AtOnce : Callee

-- a method of Method's info: a header, its code, and where that ends
pub record Begun : Type 0 where
  pub max_stack : ℕ
  pub nargs : ℕ
  pub max_locals : ℕ
  pub first : ℕ
  pub end : ℕ

pub record Loaded : Type 0 where
  -- the bytes of Method's info from an offset on
  pub from : ℕ → List ℕ
  pub handlers : List Handler
  -- the method whose header stands at an offset
  pub begun : ℕ → Option Begun
  -- the static method of this name, by the offset of its header
  pub entry : MemberId → Option ℕ
  -- the method of the package that is selected on an object of this class
  pub sent : ClassRef → MemberId → Option ℕ
  -- how many arguments a call takes, with the receiver, by its opcode and operands, and what it reaches on that receiver
  pub nargs : (op : ℕ) → List ℤ → Option ℕ
  pub called : (op : ℕ) → List ℤ → Option ClassRef → Option Callee
  -- the class of an index of the constant pool, 0 for any
  pub catches : (index : ℕ) → ClassRef → Bool
  pub fault : Fault → Option ClassRef
  -- names: of a class, and the class of a name; the same name is of another, and is an imported class that is no interface
  pub name_of : ClassRef → List ℕ
  pub class_of : List ℕ → Option ClassRef
  pub subtype : List ℕ → List ℕ → Bool
  pub is_imported : List ℕ → Bool
  -- the static image at the start
  pub store : Store
  pub naming : Naming

-- ---- methods in Method's info

pub record Header : Type 0 where
  pub max_stack : ℕ
  pub nargs : ℕ
  pub max_locals : ℕ
  pub size : ℕ

-- a short header, or an extended one (ACC_EXTENDED 8); an abstract method (ACC_ABSTRACT 4) can't be entered
abbrev pub extended : List ℕ → Option Header
extended (s ∷ n ∷ l ∷ bytes) = Some (record { max_stack = s; nargs = n; max_locals = l; size = 4 })
extended bytes = None

abbrev pub short : ℕ → List ℕ → Option Header
short a [] = None
short a (b ∷ bytes) = Some (record { max_stack = a % 16; nargs = b / 16; max_locals = b % 16; size = 2 })

unfoldable pub header : List ℕ → Option Header
header [] = None
header (a ∷ bytes) =
    if a / 16 == 0 then short a bytes else (if a / 16 == 8 then extended bytes else None)

-- what Descriptor says of the method whose header stands at an offset
abbrev pub described : List MethodDescriptor → ℕ → Option MethodDescriptor
described [] offset = None
described (m ∷ methods) offset = if m.offset == offset then Some m else described methods offset

abbrev pub all_methods : List ClassDescriptor → List MethodDescriptor
all_methods classes = flat_map (λ c. c.methods) classes

abbrev pub begun_with : (offset : ℕ) → Option Header → Option MethodDescriptor → Option Begun
begun_with offset (Some h) (Some m) = Some (record {
  max_stack = h.max_stack;
  nargs = h.nargs;
  max_locals = h.max_locals;
  first = offset + h.size;
  end = offset + h.size + m.bytecode_count;
})
begun_with offset h m = None

-- Method's info is the number of handlers, the handlers of eight bytes each, and the methods
abbrev pub bytes_from : Method → ℕ → List ℕ
bytes_from m at =
    if nat_le (1 + 8 * length m.handlers) at then drop (at - (1 + 8 * length m.handlers)) m.methods else []

-- ACC_STATIC
abbrev pub is_static : Option MethodDescriptor → Bool
is_static None = false
is_static (Some m) = m.flags / 8 % 2 == 1

abbrev pub entered_among : List MethodDescriptor → List MethodName → MemberId → Option ℕ
entered_among described_methods [] id = None
entered_among described_methods (m ∷ methods) id =
    if same_id m.id id && is_static (described described_methods m.offset)
    then Some m.offset else entered_among described_methods methods id

-- ---- names of classes

abbrev pub name_among : List ClassName → ℕ → List ℕ
name_among [] offset = []
name_among (c ∷ classes) offset = if is_inside c.class offset then c.name else name_among classes offset

abbrev pub name_with : (token : ℕ) → List ExportClass → List ℕ
name_with token [] = []
name_with token (c ∷ classes) = if c.token == token then c.name else name_with token classes

abbrev pub name_in : (token : ℕ) → Option ExportTree → List ℕ
name_in token None = []
name_in token (Some t) = name_with token t.classes

abbrev pub class_name : List ClassName → List ExportTree → ClassRef → List ℕ
class_name classes exports (Inside offset) = name_among classes offset
class_name classes exports (Outside tree token) = name_in token (slice_get exports tree)

abbrev pub token_with : List ExportClass → List ℕ → Option ℕ
token_with [] name = None
token_with (c ∷ classes) name = if same_text c.name name then Some c.token else token_with classes name

abbrev pub found_outside : (tree : ℕ) → Option ℕ → Option ClassRef → Option ClassRef
found_outside tree None otherwise = otherwise
found_outside tree (Some token) otherwise = Some (Outside tree token)

abbrev pub class_outside : (tree : ℕ) → List ExportTree → List ℕ → Option ClassRef
class_outside tree [] name = None
class_outside tree (t ∷ exports) name = found_outside tree (token_with t.classes name) (class_outside (tree + 1) exports name)

abbrev pub class_with : List ClassName → List ExportTree → List ℕ → Option ClassRef
class_with [] exports name = class_outside 0 exports name
class_with (c ∷ classes) exports name = if same_text c.name name then Some c.class else class_with classes exports name

abbrev pub listed : List ExportTree → List ExportClass
listed exports = flat_map (λ t. t.classes) exports

abbrev pub is_super : List ExportClass → (sub sup : List ℕ) → Bool
is_super [] sub sup = false
is_super (c ∷ classes) sub sup =
    if same_text c.name sub then is_among sup c.supers || is_among sup c.interfaces else is_super classes sub sup

abbrev pub is_array : List ℕ → Bool
is_array [] = false
is_array (c ∷ name) = c == 91

abbrev pub is_of : List ExportClass → (sub sup : List ℕ) → Bool
is_of classes sub sup =
    same_text sub sup || (if is_array sub then same_text sup (codes "java/lang/Object") else is_super classes sub sup)

-- an imported class, ACC_INTERFACE aside
abbrev pub is_plain : List ExportClass → List ℕ → Bool
is_plain [] name = false
is_plain (c ∷ classes) name = if same_text c.name name then not (c.flags / 512 % 2 == 1) else is_plain classes name

abbrev pub fault_name : Fault → List ℕ
fault_name Arithmetic = codes "java/lang/ArithmeticException"
fault_name NullPointer = codes "java/lang/NullPointerException"
fault_name IndexOutside = codes "java/lang/ArrayIndexOutOfBoundsException"
fault_name NegativeSize = codes "java/lang/NegativeArraySizeException"
fault_name ClassCast = codes "java/lang/ClassCastException"
fault_name ArrayStore = codes "java/lang/ArrayStoreException"

-- ---- the naming: the i-th class of Descriptor is the i-th class, and so for its methods without `<clinit>`

abbrev pub written_methods : ClassTree → List MethodTree
written_methods tree = filter (λ m. not (same_text m.name (codes "<clinit>"))) tree.methods

abbrev pub method_names : List ℕ → List MethodDescriptor → List MethodTree → List MethodName
method_names class (d ∷ descriptors) (m ∷ methods) =
    record { offset = d.offset; id = record { class = class; name = m.name; desc = m.desc } } ∷ method_names class descriptors methods
method_names class descriptors methods = []

abbrev pub classes_named : List ClassDescriptor → List ClassTree → List ClassName
classes_named (d ∷ descriptors) (c ∷ classes) = record { class = d.this_class; name = c.name } ∷ classes_named descriptors classes
classes_named descriptors classes = []

-- an interface (0x40) has no method in Method
abbrev pub methods_named : List ClassDescriptor → List ClassTree → List MethodName
methods_named (d ∷ descriptors) (c ∷ classes) =
    (if d.flags / 64 % 2 == 1 then [] else method_names c.name d.methods (written_methods c)) ++ methods_named descriptors classes
methods_named descriptors classes = []

-- the naming by class files in the order of Descriptor, where no class has fields
abbrev pub naming : Descriptor → List ClassTree → Naming
naming d classes = record {
  classes = classes_named d.classes classes;
  methods = methods_named d.classes classes;
  fields = λ class. [];
  cells = [];
}

-- ---- the components as the machine reads them, for packages whose code calls nothing and that have no object and no static cell

abbrev pub loaded_from : Method → Descriptor → List ExportTree → Naming → Loaded
loaded_from m d exports names = record {
  from = bytes_from m;
  handlers = m.handlers;
  begun = λ offset. begun_with offset (header (bytes_from m offset)) (described (all_methods d.classes) offset);
  entry = entered_among (all_methods d.classes) names.methods;
  sent = λ class id. None;
  nargs = λ op operands. None;
  called = λ op operands receiver. None;
  catches = λ index class. index == 0;
  fault = λ fault. class_outside 0 exports (fault_name fault);
  name_of = class_name names.classes exports;
  class_of = class_with names.classes exports;
  subtype = is_of (listed exports);
  is_imported = is_plain (listed exports);
  store = record { heap = []; references = []; bytes = [] };
  naming = names;
}

-- an absent component has nothing in it
abbrev pub method_part : Option Method → Method
method_part None = record { handlers = []; methods = [] }
method_part (Some m) = m

abbrev pub descriptor_part : Option Descriptor → Descriptor
descriptor_part None = record { classes = []; pool_types = []; types = [] }
descriptor_part (Some d) = d

-- Components, export files in the order of Import, and class files in the order of Descriptor.
unfoldable pub loaded : CapTree → List ExportTree → List ClassTree → Loaded
loaded cap exports classes =
    let d = descriptor_part cap.descriptor in loaded_from (method_part cap.method) d exports (naming d classes)
