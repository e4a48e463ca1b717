-- Classes by token: what a class_ref means, what stands above a class, what its objects hold, and names (Java Card
-- Virtual Machine Specification 2.2.2, sections 6.1, 6.8 and 6.12).
use Rattle.std.specs.Prelude.{ℕ, zero, suc, ◌+◌, ◌*◌, List, [], ◌∷◌, ◌++◌, length, map, flat_map, Option, Some, None}
use Rattle.std.specs.Prelude.{option_and_then, option_map, option_to_list, unwrap_or, is_some, Bool, true, false}
use Rattle.std.specs.Prelude.{nat_lt, nat_le, ◌==◌, ◌&&◌, if◌then◌else◌, slice_get, pos, codes}
use Rattle.std.specs.List.{list_any}
use Rattle.std.specs.Str.{bytes_eq}
use Rattle.cjc_export.specs.Bytes.AccessFlags as flags
use Rattle.cjc_capread.specs.declared.tree.ClassRef.{ClassRef}
use Rattle.cjc_capread.specs.declared.tree.ClassRef.TheVariants.{Inside, Outside}
use Rattle.cjc_capread.specs.declared.tree.ClassEntry.{ClassEntry}
use Rattle.cjc_capread.specs.declared.tree.InterfaceEntry.{InterfaceEntry}
use Rattle.cjc_capread.specs.declared.tree.ImplementedInterface.{ImplementedInterface}
use Rattle.cjc_export.specs.declared.tree.ExportClass.{ExportClass}
use Rattle.cjc_export.specs.declared.tree.ExportTree.{ExportTree}
use Rattle.cjc_script.specs.declared.value.Value.TheVariants.{Num, Null}
use Rattle.cjc_script.specs.Sorts.{Element, Booleans, Bytes, Shorts, Ints, Shape, OfClass, OfNumbers, OfReferences}
use Rattle.cjc_card_semantics.specs.Bytecode.Calculations.{Fault, Arithmetic, NullPointer, IndexOutside, NegativeSize}
use Rattle.cjc_card_semantics.specs.Bytecode.Calculations.{ClassCast, ArrayStore}
use Rattle.cjc_card_semantics.specs.Bytecode.Effects.{Slot}
use Rattle.cjc_card_semantics.specs.Machine.Loaded.{ClassNames, Import, OfGroup, OfFile, Part, Loaded}

-- ---- a class, and a field of an object

-- a class or interface: by its package and offset in a group, or by its token in an export file
pub data Class : Type 0 where
  Own : (part offset : ℕ) → Class
  External : (tree token : ℕ) → Class

-- the same place or token
abbrev pub same_class : Class → Class → Bool
same_class (Own p a) (Own q b) = (p == q) && (a == b)
same_class (External p a) (External q b) = (p == q) && (a == b)
same_class (Own p a) (External q b) = false
same_class (External p a) (Own q b) = false

-- a field of an object by the class that declares it and its token
pub record Field : Type 0 where
  pub class : Class
  pub token : ℕ

-- the same class and token
abbrev pub same_field : Field → Field → Bool
same_field a b = same_class a.class b.class && (a.token == b.token)

-- the class is one of these
abbrev pub is_in : Class → List Class → Bool
is_in c classes = list_any (same_class c) classes

-- ---- infos in Class

-- an interface or a class of the package
pub data Info : Type 0 where
  IsInterface : (entry : InterfaceEntry) → Info
  IsClass : (entry : ClassEntry) → Info

-- interfaces stand before classes
abbrev pub infos : Part → List Info
infos part = let c = part.class in map IsInterface c.interfaces ++ map IsClass c.classes

-- the bytes of a class's interface maps
abbrev pub map_sizes : List ImplementedInterface → ℕ
map_sizes [] = 0
map_sizes (m ∷ maps) = 3 + length m.index + map_sizes maps

-- in bytes
abbrev pub info_size : Info → ℕ
info_size (IsInterface i) = 1 + 2 * length i.superinterfaces
info_size (IsClass c) = 10 + 2 * length c.public_methods + 2 * length c.package_methods + map_sizes c.interfaces

-- the number of the info that stands at an offset, and the offset of a number, where the first stands at this one
abbrev pub number_from : (at : ℕ) → List Info → (offset : ℕ) → Option ℕ
number_from at [] offset = None
number_from at (i ∷ infos) offset =
    if at == offset then Some 0 else option_map suc (number_from (at + info_size i) infos offset)

-- the offset of the info with a number
abbrev pub offset_from : (at : ℕ) → List Info → (number : ℕ) → Option ℕ
offset_from at [] n = None
offset_from at (i ∷ infos) zero = Some at
offset_from at (i ∷ infos) (suc n) = offset_from (at + info_size i) infos n

-- the first info stands behind the two bytes of the signature pool's length
abbrev pub number_of : Part → (offset : ℕ) → Option ℕ
number_of part offset = number_from 2 (infos part) offset

-- the offset of an info in its package
abbrev pub offset_of : Part → (number : ℕ) → Option ℕ
offset_of part number = offset_from 2 (infos part) number

-- the info at an offset of a package
abbrev pub info_at : Part → (offset : ℕ) → Option Info
info_at part offset = option_and_then (slice_get (infos part)) (number_of part offset)

-- the info of a class of the group
abbrev pub info_of : Loaded → (part offset : ℕ) → Option Info
info_of l p offset = option_and_then (λ part. info_at part offset) (slice_get l.parts p)

-- ---- classes of export files

-- the class of a token
abbrev pub with_token : List ExportClass → (token : ℕ) → Option ExportClass
with_token [] token = None
with_token (c ∷ classes) token = if c.token == token then Some c else with_token classes token

-- the class of an export file by its token
abbrev pub external : Loaded → (tree token : ℕ) → Option ExportClass
external l tree token = option_and_then (λ t. with_token t.classes token) (slice_get l.trees tree)

-- the token of the class of a name
abbrev pub token_named : List ExportClass → List ℕ → Option ℕ
token_named [] name = None
token_named (c ∷ classes) name = if bytes_eq c.name name then Some c.token else token_named classes name

-- the first that is there
abbrev pub or_else : {A : Type 0} → Option A → Option A → Option A
or_else None other = other
or_else (Some x) other = Some x

-- the first class of this name in files from a number on
abbrev pub external_from : (tree : ℕ) → List ExportTree → List ℕ → Option Class
external_from tree [] name = None
external_from tree (t ∷ trees) name = or_else (option_map (External tree) (token_named t.classes name))
    (external_from (tree + 1) trees name)

-- the first class of this name in the export files
abbrev pub external_named : Loaded → List ℕ → Option Class
external_named l name = external_from 0 l.trees name

-- ---- what a class_ref means, seen from a package

-- the class is one of the group or of the export files
abbrev pub is_there : Loaded → Class → Bool
is_there l (Own p offset) = is_some (info_of l p offset)
is_there l (External tree token) = is_some (external l tree token)

-- the class, where it is there
abbrev pub where_there : Loaded → Class → Option Class
where_there l c = if is_there l c then Some c else None

-- through the import of a package token, and through that package's Export where it is of the group
abbrev pub imported_class : Loaded → (token : ℕ) → Import → Option Class
imported_class l token (OfFile tree) = where_there l (External tree token)
imported_class l token (OfGroup q) =
    option_and_then (λ part. option_and_then (λ e. where_there l (Own q e.class_offset)) (slice_get part.exports token))
    (slice_get l.parts q)

-- what a package token means in a package
abbrev pub import_of : Loaded → (part «package» : ℕ) → Option Import
import_of l p «package» = option_and_then (λ part. slice_get part.imports «package») (slice_get l.parts p)

-- the class of a class_ref, where there is one
abbrev pub class_of : Loaded → (part : ℕ) → ClassRef → Option Class
class_of l p (Inside offset) = where_there l (Own p offset)
class_of l p (Outside «package» token) = option_and_then (imported_class l token) (import_of l p «package»)

-- ---- names

-- the names of a class of the group
abbrev pub names_of : Loaded → (part offset : ℕ) → Option ClassNames
names_of l p offset = option_and_then (λ part. option_and_then (slice_get part.classes) (number_of part offset))
    (slice_get l.parts p)

-- the name of a class
abbrev pub name_of : Loaded → Class → List ℕ
name_of l (Own p offset) = unwrap_or (option_map (λ c. c.name) (names_of l p offset)) []
name_of l (External tree token) = unwrap_or (option_map (λ c. c.name) (external l tree token)) []

-- the number of the info with a name
abbrev pub number_named : List ClassNames → List ℕ → Option ℕ
number_named [] name = None
number_named (c ∷ classes) name = if bytes_eq c.name name then Some 0 else option_map suc (number_named classes name)

-- the class of a name in packages from a number on
abbrev pub own_from : (part : ℕ) → List Part → List ℕ → Option Class
own_from p [] name = None
own_from p (part ∷ parts) name =
    or_else (option_and_then (λ n. option_map (Own p) (offset_of part n)) (number_named part.classes name))
    (own_from (p + 1) parts name)

-- a class of the group by its name, else of the export files
abbrev pub class_named : Loaded → List ℕ → Option Class
class_named l name = or_else (own_from 0 l.parts name) (external_named l name)

-- the class that Java gives each exception
abbrev pub fault_name : Fault → List ℕ
fault_name Arithmetic = codes "java/lang/ArithmeticException"
fault_name NullPointer = codes "java/lang/NullPointerException"
fault_name IndexOutside = codes "java/lang/ArrayIndexOutOfBoundsException"
fault_name NegativeSize = codes "java/lang/NegativeArraySizeException"
fault_name ClassCast = codes "java/lang/ClassCastException"
fault_name ArrayStore = codes "java/lang/ArrayStoreException"

-- the class of an exception of the machine's own
abbrev pub fault_class : Loaded → Fault → Option Class
fault_class l fault = external_named l (fault_name fault)

-- ---- what stands above a class

-- those that are there
abbrev pub some_of : {A : Type 0} → List (Option A) → List A
some_of options = flat_map option_to_list options

-- what an info lists above itself
abbrev pub info_supers : Info → List ClassRef
info_supers (IsInterface i) = i.superinterfaces
info_supers (IsClass c) = c.superclass ∷ map (λ m. m.interface) c.interfaces

-- the same, where there is an info
abbrev pub all_supers : Option Info → List ClassRef
all_supers None = []
all_supers (Some info) = info_supers info

-- java/lang/Object, which each array and each interface is
abbrev pub object_class : Loaded → Option Class
object_class l = class_named l (codes "java/lang/Object")

-- an interface lists no superclass
abbrev pub object_above : Loaded → Option Info → List Class
object_above l (Some (IsInterface i)) = option_to_list (object_class l)
object_above l info = []

-- what stands directly above a class: its superclass and superinterfaces
abbrev pub supers : Loaded → Class → List Class
supers l (Own p offset) = let info = info_of l p offset in some_of (map (class_of l p) (all_supers info))
    ++ object_above l info
supers l (External tree token) =
    flat_map (λ c. some_of (map (external_named l) (c.supers ++ c.interfaces))) (option_to_list (external l tree token))

-- the classes that are reached from some by steps, each once and followed by those above it
abbrev pub closure : (next : Class → List Class) → (steps : ℕ) → (seen pending : List Class) → List Class
closure next zero seen pending = []
closure next (suc n) seen [] = []
closure next (suc n) seen (c ∷ pending) =
    if is_in c seen then closure next n seen pending else c ∷ closure next n (c ∷ seen) (next c ++ pending)

-- the steps that infos need: each, each that it lists, and java/lang/Object
abbrev pub info_steps : List Info → ℕ
info_steps [] = 0
info_steps (i ∷ infos) = 2 + length (info_supers i) + info_steps infos

-- those of packages
abbrev pub part_steps : List Part → ℕ
part_steps [] = 0
part_steps (part ∷ parts) = info_steps (infos part) + part_steps parts

-- those of the classes of an export file
abbrev pub class_steps : List ExportClass → ℕ
class_steps [] = 0
class_steps (c ∷ classes) = 1 + length c.supers + length c.interfaces + class_steps classes

-- those of export files
abbrev pub tree_steps : List ExportTree → ℕ
tree_steps [] = 0
tree_steps (t ∷ trees) = class_steps t.classes + tree_steps trees

-- Each class is looked at once, and each that it lists; so many steps reach all of them.
abbrev pub steps : Loaded → ℕ
steps l = 2 + part_steps l.parts + tree_steps l.trees

-- a class, and what stands above it
abbrev pub upwards : Loaded → Class → List Class
upwards l c = closure (supers l) (steps l) [] (c ∷ [])

-- a class is another or stands below it
abbrev pub is_kind_of : Loaded → Class → Class → Bool
is_kind_of l c d = is_in d (upwards l c)

-- java/lang/Object or what stands above it
abbrev pub is_object : Loaded → Class → Bool
is_object l d = list_any (λ c. is_kind_of l c d) (option_to_list (object_class l))

-- the same element type
abbrev pub same_element : Element → Element → Bool
same_element Booleans Booleans = true
same_element Bytes Bytes = true
same_element Shorts Shorts = true
same_element Ints Ints = true
same_element a b = false

-- A type is of another: by the closure of supers, and arrays of references by their elements.
abbrev pub is_of : Loaded → Shape Class → Shape Class → Bool
is_of l (OfClass c) (OfClass d) = is_kind_of l c d
is_of l (OfClass c) array = false
is_of l (OfNumbers a) (OfNumbers b) = same_element a b
is_of l (OfNumbers a) (OfClass d) = is_object l d
is_of l (OfNumbers a) (OfReferences d) = false
is_of l (OfReferences c) (OfReferences d) = is_kind_of l c d
is_of l (OfReferences c) (OfClass d) = is_object l d
is_of l (OfReferences c) (OfNumbers b) = false

-- the class whose methods an object of a type has
abbrev pub shape_class : Loaded → Shape Class → Option Class
shape_class l (OfClass c) = Some c
shape_class l (OfNumbers element) = object_class l
shape_class l (OfReferences c) = object_class l

-- ---- objects

-- no object is made of what is no class
abbrev pub is_interface_info : Option Info → Bool
is_interface_info (Some (IsClass c)) = false
is_interface_info info = true

-- an interface, or no class
abbrev pub is_interface_file : Option ExportClass → Bool
is_interface_file None = true
is_interface_file (Some c) = flags.is_interface c.flags

-- no object is made of it
abbrev pub is_interface : Loaded → Class → Bool
is_interface l (Own p offset) = is_interface_info (info_of l p offset)
is_interface l (External tree token) = is_interface_file (external l tree token)

-- the superclass of a class of the group
abbrev pub superclass_by : Loaded → (part : ℕ) → Option Info → Option Class
superclass_by l p (Some (IsClass c)) = class_of l p c.superclass
superclass_by l p info = None

-- the superclass of a class of the group
abbrev pub superclass : Loaded → (part offset : ℕ) → Option Class
superclass l p offset = superclass_by l p (info_of l p offset)

-- no more classes of the group stand above one another than there are
abbrev pub info_count : List Part → ℕ
info_count [] = 0
info_count (part ∷ parts) = length (infos part) + info_count parts

-- so many superclasses at most
abbrev pub depth : Loaded → ℕ
depth l = 1 + info_count l.parts

-- a token is in the span of references
abbrev pub is_reference_token : ClassEntry → (token : ℕ) → Bool
is_reference_token c token = nat_le c.first_reference_token token
    && nat_lt token (c.first_reference_token + c.reference_count)

-- the slot of a token in a new object
abbrev pub slot_for : Class → ClassEntry → (token : ℕ) → Slot Field
slot_for class c token = record {
  key = record { class = class; token = token };
  value = if is_reference_token c token then Null else Num (pos 0);
}

-- a slot for each token below the declared instance size: null in the span of references, else 0
abbrev pub slots_from : Class → ClassEntry → (token count : ℕ) → List (Slot Field)
slots_from class c token zero = []
slots_from class c token (suc n) = slot_for class c token ∷ slots_from class c (token + 1) n

-- the slots that a class declares
abbrev pub own_slots : Class → Option Info → List (Slot Field)
own_slots class (Some (IsClass c)) = slots_from class c 0 c.declared_instance_size
own_slots class info = []

-- those of the superclasses in the group stand first
abbrev pub slots_upwards : Loaded → (depth : ℕ) → Option Class → List (Slot Field)
slots_upwards l zero class = []
slots_upwards l (suc n) None = []
slots_upwards l (suc n) (Some (External tree token)) = []
slots_upwards l (suc n) (Some (Own p offset)) =
    slots_upwards l n (superclass l p offset) ++ own_slots (Own p offset) (info_of l p offset)

-- what a new object holds
abbrev pub fresh : Loaded → Class → Option (List (Slot Field))
fresh l c = if is_interface l c then None else Some (slots_upwards l (depth l) (Some c))
