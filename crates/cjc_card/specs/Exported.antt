-- When Export says what Descriptor says (Java Card Virtual Machine Specification 2.2.2, 6.12 and 6.13).
use Rattle.std.specs.Prelude.{◌≡◌, ℕ, ◌+◌, ◌/◌, ◌%◌, List, [], ◌∷◌, Option, Some, None, Bool, true, false, ◌==◌, ◌&&◌, if◌then◌else◌}
use Rattle.cjc_capread.specs.declared.tree.FieldDescriptor.{FieldDescriptor}
use Rattle.cjc_capread.specs.declared.tree.FieldPlace.{FieldPlace}
use Rattle.cjc_capread.specs.declared.tree.FieldPlace.TheVariants.{Static, Instance}
use Rattle.cjc_capread.specs.declared.tree.MethodDescriptor.{MethodDescriptor}
use Rattle.cjc_capread.specs.declared.tree.ClassDescriptor.{ClassDescriptor}
use Rattle.cjc_capread.specs.declared.tree.Descriptor.{Descriptor}
use Rattle.cjc_capread.specs.declared.tree.ExportedClass.{ExportedClass}
use Rattle.cjc_capread.specs.declared.tree.Export.{Export}
use Rattle.cjc_capread.specs.declared.tree.CapTree.{CapTree}
use Rattle.cjc_card.specs.Naming.{is_inside}

-- static methods and constructors have tokens of their own, apart from those of virtual methods
abbrev pub has_static_token : MethodDescriptor → ℕ → Bool
has_static_token m token = m.token == token && (if m.flags / 8 % 2 == 1 then true else m.flags / 128 % 2 == 1)

-- the method of a class with this token lies at this offset
abbrev pub method_lies : List MethodDescriptor → (token offset : ℕ) → Bool
method_lies [] token offset = false
method_lies (m ∷ methods) token offset =
    if has_static_token m token then m.offset == offset else method_lies methods token offset

abbrev pub place_is : FieldPlace → ℕ → Bool
place_is (Static at) offset = at == offset
place_is (Instance class token) offset = false

abbrev pub is_static_field : FieldPlace → Bool
is_static_field (Static at) = true
is_static_field (Instance class token) = false

abbrev pub field_lies : List FieldDescriptor → (token offset : ℕ) → Bool
field_lies [] token offset = false
field_lies (f ∷ fields) token offset =
    if f.token == token && is_static_field f.place then place_is f.place offset else field_lies fields token offset

abbrev pub methods_lie : List MethodDescriptor → (token : ℕ) → List ℕ → Bool
methods_lie methods token [] = true
methods_lie methods token (offset ∷ offsets) = method_lies methods token offset && methods_lie methods (token + 1) offsets

abbrev pub fields_lie : List FieldDescriptor → (token : ℕ) → List ℕ → Bool
fields_lie fields token [] = true
fields_lie fields token (offset ∷ offsets) = field_lies fields token offset && fields_lie fields (token + 1) offsets

-- the class with this token lies where Export says, and so do its members
abbrev pub class_lies : List ClassDescriptor → (token : ℕ) → ExportedClass → Bool
class_lies [] token e = false
class_lies (c ∷ classes) token e =
    if c.token == token
    then is_inside c.this_class e.class_offset && (fields_lie c.fields 0 e.fields && methods_lie c.methods 0 e.methods)
    else class_lies classes token e

abbrev pub classes_lie : List ClassDescriptor → (token : ℕ) → List ExportedClass → Bool
classes_lie classes token [] = true
classes_lie classes token (e ∷ exported) = class_lies classes token e && classes_lie classes (token + 1) exported

abbrev pub says_the_same : Option Export → Option Descriptor → Bool
says_the_same None d = true
says_the_same (Some e) None = false
says_the_same (Some e) (Some d) = classes_lie d.classes 0 e.classes

-- The offsets of Export are those that Descriptor gives the classes, static fields and static methods with these tokens.
abbrev pub ExportsWhatIsDescribed : CapTree → Type 0
ExportsWhatIsDescribed cap = says_the_same cap.export cap.descriptor ≡ true
