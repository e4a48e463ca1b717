-- The look-ups of one package over its class files and export files, and what its static cells hold at first.
use Rattle.std.specs.Prelude.{ℕ, ◌+◌, ◌-◌, List, [], ◌∷◌, length, map, reverse, Option, Some, None, option_map}
use Rattle.std.specs.Prelude.{option_and_then, is_some, Bool, true, false, not, ◌==◌, ◌&&◌, ◌||◌, if◌then◌else◌}
use Rattle.std.specs.Prelude.{slice_get, ℤ, codes}
use Rattle.std.specs.List.{flat_map}
use Rattle.std.specs.Str.{bytes_eq}
use Rattle.cjc_code.specs.Bytes.declared.fault.MemberId.{MemberId}
use Rattle.cjc_code.specs.Bytes.AccessFlags.{is_private, is_static, is_interface, is_abstract}
use Rattle.cjc_code.specs.ClassFile.declared.tree.ClassTree.{ClassTree}
use Rattle.cjc_code.specs.ClassFile.declared.tree.FieldTree.{FieldTree}
use Rattle.cjc_code.specs.ClassFile.declared.tree.MethodTree.{MethodTree}
use Rattle.cjc_code.specs.ClassFile.Code.{CodeTree}
use Rattle.cjc_code.specs.Decoded.{decoded}
use Rattle.cjc_world.specs.ExportFile.declared.tree.ExportClass.{ExportClass}
use Rattle.cjc_world.specs.ExportFile.Members.{may_be_constant}
use Rattle.cjc_script.specs.declared.value.Value.{Value}
use Rattle.cjc_script.specs.declared.value.Value.TheVariants.{Num, Obj}
use Rattle.cjc_script.specs.declared.report.FieldValue.{FieldValue}
use Rattle.cjc_script.specs.declared.report.Thing.{Thing}
use Rattle.cjc_script.specs.declared.report.Thing.TheVariants.{Array}
use Rattle.cjc_script.specs.Sorts.{Shape, field_sort, zero_of, array_of, shape_name}
use Rattle.cjc_world.specs.declared.found.Found.{Found}
use Rattle.cjc_world.specs.declared.image.ArrayCell.{ArrayCell}
use Rattle.cjc_world.specs.declared.image.ValueCell.{ValueCell}
use Rattle.cjc_world.specs.declared.image.StaticImage.{StaticImage}
use Rattle.cjc_world.specs.Files.{Files}
use Rattle.cjc_world.specs.Classes.{Member, Class, class_named, class_at}
use Rattle.cjc_world.specs.Supertypes.{line}
use Rattle.cjc_world.specs.Lookup.{find_field, find_method, own_method, selected, is_selectable, receiver}
use Rattle.cjc_world.specs.Subtype.{is_subtype}
use Rattle.cjc_jvm_semantics.specs.Effects.{is_same_field}
use Rattle.cjc_jvm_semantics.specs.Linked.{Method, ResolvedField, Constant, Static, Instance, Callee, Inside, Abroad}
use Rattle.cjc_jvm_semantics.specs.Linked.{Call, OnClass, OnObject}

-- ---- methods of class files

-- a member of a class
abbrev pub member_of : (class : List ℕ) → Member → MemberId
member_of class m = record { class = class; name = m.name; desc = m.desc }

-- the same member, named by another class
abbrev pub of_class : (class : List ℕ) → MemberId → MemberId
of_class class id = record id { class = class }

-- a method by its code, and one without
abbrev pub method_by : ClassTree → MethodTree → Option CodeTree → Method
method_by class m None = record {
  id = record { class = class.name; name = m.name; desc = m.desc };
  is_abstract = true;
  max_stack = 0;
  max_locals = 0;
  insns = [];
  catches = [];
}
method_by class m (Some code) = record {
  id = record { class = class.name; name = m.name; desc = m.desc };
  is_abstract = false;
  max_stack = code.max_stack;
  max_locals = code.max_locals;
  insns = decoded class m code;
  catches = code.catches;
}

-- the method of a class file; a look-up counts fields first
abbrev pub method_in : (member : ℕ) → ClassTree → Option Method
method_in member class = option_map (λ m. method_by class m m.code) (slice_get class.methods
    (member - length class.fields))

-- the method of the package that a look-up found
abbrev pub method_at : Files → Found → Option Method
method_at files f = if f.imported then None else option_and_then (method_in f.member) (slice_get files.classes f.class)

-- ---- what a look-up found

-- its class and its flags
pub record ResolvedMember : Type 0 where
  pub owner : Class
  pub flags : ℕ

-- of a method
abbrev pub method_hit : List Class → Found → Option ResolvedMember
method_hit w f =
    option_and_then (λ c. option_map (λ m. record { owner = c; flags = m.flags })
    (slice_get c.methods (f.member - length c.fields)))
    (class_at w f.imported f.class)

-- of a field
abbrev pub field_hit : List Class → Found → Option ResolvedMember
field_hit w f =
    option_and_then (λ c. option_map (λ m. record { owner = c; flags = m.flags }) (slice_get c.fields f.member))
    (class_at w f.imported f.class)

-- ---- fields

-- the value of a constant of a class file
abbrev pub constant_in : (member : ℕ) → ClassTree → Option ℤ
constant_in member class =
    option_and_then (λ f. if may_be_constant f.flags f.desc then f.constant else None) (slice_get class.fields member)

-- the value of a constant of an export file
abbrev pub exported_constant : (member : ℕ) → ExportClass → Option ℤ
exported_constant member class =
    option_and_then (λ f. if may_be_constant f.flags f.desc then f.constant else None) (slice_get class.fields member)

-- the value of the constant that a look-up found
abbrev pub constant_at : Files → Found → Option ℤ
constant_at files f =
    if f.imported then option_and_then (exported_constant f.member) (slice_get (flat_map (λ t. t.classes) files.exports)
    f.class)
    else option_and_then (constant_in f.member) (slice_get files.classes f.class)

-- a constant, a static field or a field of objects, by the class that declares it
abbrev pub field_by : Option ℤ → MemberId → ResolvedMember → ResolvedField
field_by (Some z) id hit = Constant z
field_by None id hit =
    let owner = hit.owner in if is_static hit.flags then Static (of_class owner.name id)
    else Instance (of_class owner.name id)

-- the field that is found from the named class
abbrev pub field_named : Files → List Class → MemberId → Option ResolvedField
field_named files w id =
    option_and_then (λ f. option_map (field_by (constant_at files f) id) (field_hit w f)) (find_field w id.class id.name
    id.desc)

-- ---- calls

-- <init>
abbrev pub is_constructor : List ℕ → Bool
is_constructor name = bytes_eq name (codes "<init>")

-- <clinit>
abbrev pub is_initialiser : List ℕ → Bool
is_initialiser name = bytes_eq name (codes "<clinit>")

-- a method of the package, or the event of an imported one
abbrev pub callee_at : Files → (event : List ℕ) → MemberId → Found → Option Callee
callee_at files event id f = if f.imported then Some (Abroad (of_class event id))
    else option_map Inside (method_at files f)

-- the name of the first imported class among these
abbrev pub first_imported : List Class → List ℕ
first_imported [] = []
first_imported (c ∷ cs) = if c.is_imported then c.name else first_imported cs

-- how a method of a name and descriptor is selected from a class upwards
abbrev pub Selection : Type 0
Selection = (class : List ℕ) → MemberId → Option Found

-- What is selected from a class upwards; the event of an imported one names the first imported class at or above that
-- class.
abbrev pub selected_from : Files → List Class → Selection → (class : List ℕ) → MemberId → Option Callee
selected_from files w select class id =
    option_and_then (λ f. callee_at files (first_imported (line w (receiver class))) id f) (select class id)

-- where the receiver is of a class
abbrev pub on_class : List Class → (class : List ℕ) → (List ℕ → Option Callee) → Call
on_class w class selected = OnObject (λ type. if is_subtype w type class then selected type else None)

-- invokestatic: the class in which the method is found
abbrev pub static_call : Files → List Class → MemberId → Found → ResolvedMember → Option Call
static_call files w id f hit =
    let owner = hit.owner in if is_static hit.flags then option_map OnClass (callee_at files owner.name id f) else None

-- invokevirtual: selected on the receiver
abbrev pub virtual_call : Files → List Class → Selection → MemberId → ResolvedMember → Option Call
virtual_call files w select id hit =
    if is_selectable hit.flags then Some (on_class w id.class (λ type. selected_from files w select type id)) else None

-- the first super of a class
abbrev pub first_super : Option Class → Option (List ℕ)
first_super None = None
first_super (Some c) = slice_get c.supers 0

-- a constructor or a private method itself
abbrev pub direct_call : Files → List Class → MemberId → Found → ResolvedMember → Call
direct_call files w id f hit = let owner = hit.owner in on_class w id.class (λ type. callee_at files owner.name id f)

-- any other method is selected from the superclass of the class that holds the code, whose objects receive it
abbrev pub super_call : Files → List Class → Selection → (holder : List ℕ) → MemberId → Call
super_call files w select holder id =
    on_class w holder (λ type. option_and_then (λ super. selected_from files w select super id)
    (first_super (class_named w holder)))

-- invokespecial
abbrev pub special_call : Files → List Class → Selection → (holder : List ℕ) → MemberId → Found → ResolvedMember
    → Option Call
special_call files w select holder id f hit =
    if is_static hit.flags then None
    else if is_constructor id.name || is_private hit.flags then Some (direct_call files w id f hit)
    else Some (super_call files w select holder id)

-- on an object of an imported class, or an array, an event of the interface; else selected on the receiver
abbrev pub interface_callee : Files → List Class → Selection → (interface type : List ℕ) → MemberId → Option Class
    → Option Callee
interface_callee files w select interface type id None = None
interface_callee files w select interface type id (Some c) =
    if c.is_imported then Some (Abroad (of_class interface id)) else selected_from files w select type id

-- invokeinterface: its method is found in an interface
abbrev pub interface_call : Files → List Class → Selection → MemberId → ResolvedMember → Option Call
interface_call files w select id hit =
    let owner = hit.owner in
    if is_interface owner.flags && is_selectable hit.flags
    then Some (on_class w id.class (λ type. interface_callee files w select owner.name type id
    (class_named w (receiver type))))
    else None

-- by the opcode; only invokespecial calls a constructor
abbrev pub call_by : Files → List Class → Selection → (holder : List ℕ) → (op : ℕ) → MemberId → Found → ResolvedMember
    → Option Call
call_by files w select holder op id f hit =
    if op == 0xB7 then special_call files w select holder id f hit
    else if is_constructor id.name then None
    else if op == 0xB6 then virtual_call files w select id hit
    else if op == 0xB8 then static_call files w id f hit
    else if op == 0xB9 then interface_call files w select id hit
    else None

-- the first method upwards that is neither private nor static
abbrev pub select_in : List Class → Selection
select_in w class id = selected w class id.name id.desc

-- a call of the method that is found from the named class; none of an initialiser
abbrev pub call_named : Files → List Class → (holder : List ℕ) → (op : ℕ) → MemberId → Option Call
call_named files w holder op id =
    if is_initialiser id.name then None
    else option_and_then (λ f. option_and_then (call_by files w (select_in w) holder op id f) (method_hit w f))
    (find_method w id.class id.name id.desc)

-- ---- objects

-- the fields of objects among these, in the order of the file
abbrev pub instance_fields : (class : List ℕ) → List Member → List MemberId
instance_fields class [] = []
instance_fields class (f ∷ fields) = if is_static f.flags then instance_fields class fields else member_of class f
    ∷ instance_fields class fields

-- those that a class of the package declares
abbrev pub declared_fields : Class → List MemberId
declared_fields c = if c.is_imported then [] else instance_fields c.name c.fields

-- those of an object: a superclass's before its own
abbrev pub object_fields : List Class → (class : List ℕ) → List MemberId
object_fields w class = flat_map declared_fields (reverse (line w class))

-- no object is made of an interface or an abstract class
abbrev pub is_made : Class → Bool
is_made c = not (is_interface c.flags) && not (is_abstract c.flags)

-- the fields of a new object
abbrev pub made_of : List Class → (class : List ℕ) → Option (List MemberId)
made_of w class = option_and_then (λ c. if is_made c then Some (object_fields w class) else None) (class_named w class)

-- ---- what scripts name

-- a static method that a class of the package declares
abbrev pub entry_in : Files → MemberId → Class → Option Method
entry_in files id c =
    option_and_then (λ f. option_and_then (λ hit. if is_static hit.flags then method_at files f
    else None) (method_hit (c ∷ []) f))
    (own_method false id.name id.desc c)

-- the method of `call`: the initialiser is none
abbrev pub entry_named : Files → List Class → MemberId → Option Method
entry_named files w id =
    if is_initialiser id.name then None else option_and_then (entry_in files id) (class_named w id.class)

-- a method that is found and can be selected
abbrev pub is_sendable : MemberId → ResolvedMember → Bool
is_sendable id hit = is_selectable hit.flags && not (is_constructor id.name) && not (is_initialiser id.name)

-- the method of `send`, selected on an object of a type, which is of the named class
abbrev pub sent_by : Files → List Class → Selection → (type : List ℕ) → MemberId → ResolvedMember → Option Method
sent_by files w select type id hit =
    if is_sendable id hit && is_subtype w type id.class then option_and_then (method_at files) (select type id)
    else None

-- found from the named class
abbrev pub sent_named : Files → List Class → (type : List ℕ) → MemberId → Option Method
sent_named files w type id =
    option_and_then (λ f. option_and_then (sent_by files w (select_in w) type id) (method_hit w f))
    (find_method w id.class id.name id.desc)

-- an imported class that is no interface
abbrev pub is_plain_import : Option Class → Bool
is_plain_import None = false
is_plain_import (Some c) = c.is_imported && not (is_interface c.flags)

-- ---- static cells

-- the place of the array that a field holds
abbrev pub array_place : ℕ → List ArrayCell → MemberId → Option Value
array_place k [] f = None
array_place k (a ∷ arrays) f = if is_same_field a.field f then Some (Obj k) else array_place (k + 1) arrays f

-- the number that a field holds
abbrev pub number_place : List ValueCell → MemberId → Option Value
number_place [] f = None
number_place (v ∷ values) f = if is_same_field v.field f then Some (Num v.value) else number_place values f

-- a value, or 0 or null
abbrev pub or_zero : MemberId → Option Value → Option Value → Value
or_zero f (Some v) other = v
or_zero f None (Some v) = v
or_zero f None None = zero_of (field_sort f.desc)

-- a static field and its value by the image: an array, null, 0, or another number
abbrev pub cell_of : StaticImage → MemberId → FieldValue
cell_of image f = record { field = f; value = or_zero f (array_place 0 image.arrays f) (number_place image.others f) }

-- a static field that is no constant
abbrev pub is_cell : FieldTree → Bool
is_cell f = is_static f.flags && not (may_be_constant f.flags f.desc && is_some f.constant)

-- the static cells of a class, in the order of its file
abbrev pub cells_in : StaticImage → (class : List ℕ) → List FieldTree → List FieldValue
cells_in image class [] = []
cells_in image class (f ∷ fields) =
    if is_cell f then cell_of image (record { class = class; name = f.name; desc = f.desc })
    ∷ cells_in image class fields else cells_in image class fields

-- the static cells of the package: classes in list order, fields in the order of their file
abbrev pub cells : StaticImage → List ClassTree → List FieldValue
cells image classes = flat_map (λ c. cells_in image c.name c.fields) classes

-- the descriptor of an array of a kind of numbers
abbrev pub array_desc : Option (Shape (List ℕ)) → List ℕ
array_desc None = []
array_desc (Some shape) = shape_name shape

-- an array that is made before anything runs
abbrev pub static_array : ArrayCell → Thing
static_array a = Array (array_desc (array_of a.kind [])) (map (λ z. Num z) a.items)
