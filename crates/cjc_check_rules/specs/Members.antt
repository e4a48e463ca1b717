-- The methods, fields and tokens that are there (Java Card Virtual Machine Specification 2.2.2, 4.3.7, 6.8 and 6.13).
use Rattle.std.specs.Prelude.{ℕ, ◌-◌, List, [], ◌∷◌, length, flat_map, filter, reverse, Bool, false, nat_lt, nat_le}
use Rattle.std.specs.Prelude.{◌==◌, ◌&&◌, ◌||◌, not, if◌then◌else◌, Option, Some, None, is_none}
use Rattle.std.specs.List.{list_any}
use Rattle.std.specs.Str.{bytes_eq}
use Rattle.std.specs.Prelude.{codes}
use Rattle.cjc_capread.specs.declared.tree.ClassRef.{ClassRef}
use Rattle.cjc_capread.specs.declared.tree.ClassRef.TheVariants.{Inside, Outside}
use Rattle.cjc_capread.specs.declared.tree.ClassEntry.{ClassEntry}
use Rattle.cjc_capread.specs.declared.tree.FieldDescriptor.{FieldDescriptor}
use Rattle.cjc_capread.specs.declared.tree.FieldPlace.{FieldPlace}
use Rattle.cjc_capread.specs.declared.tree.FieldPlace.TheVariants.{Static, Instance}
use Rattle.cjc_capread.specs.declared.tree.MethodDescriptor.{MethodDescriptor}
use Rattle.cjc_capread.specs.ClassRefs.{is_inside, same_class}
use Rattle.cjc_export.specs.declared.tree.ExportMethod.{ExportMethod}
use Rattle.cjc_export.specs.declared.tree.ExportClass.{ExportClass}
use Rattle.cjc_export.specs.declared.tree.ExportTree.{ExportTree}
use Rattle.cjc_export.specs.Supers.{classes_of, upwards, has_virtual as lists_or_inherits, inherits_virtual}
use Rattle.cjc_export.specs.Bytes.AccessFlags.{has, is_static, is_interface}
use Rattle.cjc_check_rules.specs.Spots.{Placed, item_at}
use Rattle.cjc_check_rules.specs.Complete.{Complete}
use Rattle.cjc_check_rules.specs.Classes.{classes_at, imported, is_own_class}

-- ---- methods of the package

-- ACC_CONSTRUCTOR in Descriptor
abbrev pub is_constructor : (flags : ℕ) → Bool
is_constructor flags = has flags 0x80

-- what Descriptor says of the methods of classes, in its order; a class_ref that is the start of no class has none
abbrev pub class_methods : Complete → List MethodDescriptor
class_methods c = flat_map (λ d. d.methods) (filter (λ d. is_own_class c.class d.this_class) c.descriptor.classes)

-- an offset other than 0 that Descriptor gives a method of a class
abbrev pub is_method_start : Complete → ℕ → Bool
is_method_start c offset = not (offset == 0) && list_any (λ m. m.offset == offset) (class_methods c)

-- the same of a static method
abbrev pub is_static_start : Complete → ℕ → Bool
is_static_start c offset = not (offset == 0) && list_any (λ m. m.offset == offset && is_static m.flags)
    (class_methods c)

-- ---- fields of the package

-- what Descriptor says of fields, class by class
abbrev pub all_fields : Complete → List FieldDescriptor
all_fields c = flat_map (λ d. d.fields) c.descriptor.classes

-- a static field has its cell at this offset of the image
abbrev pub is_cell_at : FieldPlace → ℕ → Bool
is_cell_at (Static at) offset = at == offset
is_cell_at (Instance class token) offset = false

-- an instance field has this class_ref and token
abbrev pub is_instance : FieldPlace → ClassRef → ℕ → Bool
is_instance (Static at) class token = false
is_instance (Instance owner t) class token = same_class owner class && t == token

-- the cell of a static field, inside the static field image
abbrev pub is_cell : Complete → ℕ → Bool
is_cell c offset = nat_lt offset c.statics.image_size && list_any (λ f. is_cell_at f.place offset) (all_fields c)

-- Descriptor has it
abbrev pub describes_field : Complete → ClassRef → (token : ℕ) → Bool
describes_field c class token = list_any (λ f. is_instance f.place class token) (all_fields c)

-- ---- members of imported classes

-- static methods and constructors, which are numbered apart from virtual methods
abbrev pub is_unbound : ExportMethod → Bool
is_unbound m = is_static m.flags || bytes_eq m.name (codes "<init>")

-- an imported class has a static method or constructor with this token
abbrev pub has_static_method : Option ExportClass → (token : ℕ) → Bool
has_static_method None token = false
has_static_method (Some c) token = list_any (λ m. m.token == token && is_unbound m) c.methods

-- constants have no token
abbrev pub has_static_field : Option ExportClass → (token : ℕ) → Bool
has_static_field None token = false
has_static_field (Some c) token = list_any (λ f. f.token == token && is_static f.flags && is_none f.constant) c.fields

-- an imported class itself has an instance field with this token
abbrev pub lists_field : (token : ℕ) → ExportClass → Bool
lists_field token c = list_any (λ f. f.token == token && not (is_static f.flags) && is_none f.constant) c.fields

-- an instance field that the class or one of its supers lists
abbrev pub class_has_field : List ExportTree → Option ExportClass → (token : ℕ) → Bool
class_has_field exports None token = false
class_has_field exports (Some c) token = lists_field token c
    || list_any (lists_field token) (upwards (classes_of exports) c.supers)

-- a virtual method that the class, which is no interface, or one of its supers lists
abbrev pub class_has : List ExportTree → Option ExportClass → (token : ℕ) → Bool
class_has exports None token = false
class_has exports (Some c) token = not (is_interface c.flags) && lists_or_inherits (classes_of exports) token c

-- one that a super of the class, which is no interface, lists
abbrev pub supers_have : List ExportTree → Option ExportClass → (token : ℕ) → Bool
supers_have exports None token = false
supers_have exports (Some c) token = not (is_interface c.flags) && inherits_virtual (classes_of exports) token c

-- ---- instance fields

-- Descriptor has it with that class and token, or the export files have it of an imported class
abbrev pub has_field : Complete → List ExportTree → ClassRef → (token : ℕ) → Bool
has_field c exports (Inside offset) token = describes_field c (Inside offset) token
has_field c exports (Outside import class) token =
    describes_field c (Outside import class) token || class_has_field exports (imported exports import class) token

-- ---- tokens of virtual methods: those of the package table have the high bit 0x80, its base has not

-- the first token of the table that the token belongs to, public or package
abbrev pub base_of : ClassEntry → (token : ℕ) → ℕ
base_of c token = if nat_lt token 0x80 then c.public_base else c.package_base

-- the table that the token belongs to, public or package
abbrev pub table_of : ClassEntry → (token : ℕ) → List ℕ
table_of c token = if nat_lt token 0x80 then c.public_methods else c.package_methods

-- the token without its high bit
abbrev pub place_of : (token : ℕ) → ℕ
place_of token = if nat_lt token 0x80 then token else token - 0x80

-- an imported class or one of its supers has a virtual method of this token
abbrev pub in_imported : List ExportTree → ClassRef → (token : ℕ) → Bool
in_imported exports (Inside offset) token = false
in_imported exports (Outside import class) token = class_has exports (imported exports import class) token

-- Upwards from a class, the first one whose table does not begin above the token has an entry for it, one of an
-- imported
-- implementation counted, or the imported class at the end has it. The classes are given with the last first: a
-- superclass stands
-- earlier.
unfoldable pub has_token : List (Placed ClassEntry) → List ExportTree → ClassRef → (token : ℕ) → Bool
has_token [] exports class token = in_imported exports class token
has_token (p ∷ earlier) exports class token =
    if is_inside class p.at
    then (if nat_le (base_of p.item token) (place_of token)
    then nat_lt (place_of token - base_of p.item token) (length (table_of p.item token))
    else has_token earlier exports p.item.superclass token)
    else has_token earlier exports class token

-- a class has a virtual method of this token
abbrev pub has_virtual : Complete → List ExportTree → ClassRef → (token : ℕ) → Bool
has_virtual c exports class token = has_token (reverse (classes_at c.class)) exports class token

-- the superclass of a class of the package has a virtual method of this token
abbrev pub superclass_has : Complete → List ExportTree → Option ClassEntry → (token : ℕ) → Bool
superclass_has c exports None token = false
superclass_has c exports (Some x) token = has_virtual c exports x.superclass token

-- its superclass has one
abbrev pub has_above : Complete → List ExportTree → ClassRef → (token : ℕ) → Bool
has_above c exports (Inside offset) token = superclass_has c exports (item_at (classes_at c.class) offset) token
has_above c exports (Outside import class) token = supers_have exports (imported exports import class) token
