-- Export and Descriptor describe what is there (Java Card Virtual Machine Specification 2.2.2, 6.12 and 6.13).
use Rattle.std.specs.Prelude.{ℕ, ◌+◌, ◌*◌, List, [], ◌∷◌, ◌++◌, length, map, Bool, true, false, nat_lt, ◌==◌, ◌&&◌, ◌||◌, Option, Some, None}
use Rattle.std.specs.List.{list_all, list_any}
use Rattle.cjc_capread.specs.declared.tree.ClassInfo.{ClassInfo}
use Rattle.cjc_capread.specs.declared.tree.PoolEntry.{PoolEntry}
use Rattle.cjc_capread.specs.declared.tree.PoolEntry.TheVariants.{Classref}
use Rattle.cjc_capread.specs.declared.tree.FieldType.{FieldType}
use Rattle.cjc_capread.specs.declared.tree.FieldType.TheVariants.{Described}
use Rattle.cjc_capread.specs.declared.tree.MethodDescriptor.{MethodDescriptor}
use Rattle.cjc_capread.specs.declared.tree.ClassDescriptor.{ClassDescriptor}
use Rattle.cjc_capread.specs.declared.tree.Descriptor.{Descriptor}
use Rattle.cjc_capread.specs.declared.tree.TypeDescriptor.{TypeDescriptor}
use Rattle.cjc_capread.specs.declared.tree.ExportedClass.{ExportedClass}
use Rattle.cjc_capread.specs.declared.tree.Export.{Export}
use Rattle.cjc_capread.specs.ClassRefs.{is_inside}
use Rattle.cjc_capwrite.specs.Descriptor.{type_bytes}
use Rattle.cjc_bytes.specs.AccessFlags.{has, is_static}
use Rattle.cjc_export.specs.Members.{same_bool}
use Rattle.cjc_first.specs.Sentences.Complete.{Complete}
use Rattle.cjc_first.specs.Sentences.Placed.{Placed, placed, begins}
use Rattle.cjc_first.specs.Sentences.Classes.{interfaces_at, classes_at, is_own_class}
use Rattle.cjc_first.specs.Sentences.Members.{class_methods, is_cell_at, is_cell, is_method_start}

-- ---- Export

-- items by token: the test of each with its token, the first being this one
abbrev pub each_with_token : {A : Type 0} → (ℕ → A → Bool) → (token : ℕ) → List A → Bool
each_with_token test token [] = true
each_with_token test token (x ∷ xs) = test token x && each_with_token test (token + 1) xs

-- a static method or a constructor
abbrev pub is_unbound : MethodDescriptor → Bool
is_unbound m = is_static m.flags || has m.flags 0x80

abbrev pub method_lies : ClassDescriptor → (token offset : ℕ) → Bool
method_lies d token offset = list_any (λ m. m.token == token && is_unbound m && m.offset == offset) d.methods

abbrev pub field_lies : ClassDescriptor → (token offset : ℕ) → Bool
field_lies d token offset = list_any (λ f. f.token == token && is_cell_at f.place offset) d.fields

abbrev pub class_lies : (token : ℕ) → ExportedClass → ClassDescriptor → Bool
class_lies token e d =
    d.token == token && is_inside d.this_class e.class_offset && each_with_token (field_lies d) 0 e.fields && each_with_token (method_lies d) 0 e.methods

abbrev pub exported_classes : Option Export → List ExportedClass
exported_classes None = []
exported_classes (Some e) = e.classes

abbrev pub is_class_start : ClassInfo → ℕ → Bool
is_class_start info offset = begins (interfaces_at info) offset || begins (classes_at info) offset

abbrev pub has_starts : Complete → ExportedClass → Bool
has_starts c e = is_class_start c.class e.class_offset && list_all (is_cell c) e.fields && list_all (is_method_start c) e.methods

-- 717. The offsets of Export are those of classes, cells and methods that are there, and, in the order of the tokens, those of the
-- classes, static fields and static methods to which Descriptor gives these tokens.
unfoldable pub exports_are_described : Complete → Bool
exports_are_described c =
    list_all (has_starts c) (exported_classes c.export)
    && each_with_token (λ token e. list_any (class_lies token e) c.descriptor.classes) 0 (exported_classes c.export)

-- ---- Descriptor

-- the classes and interfaces of Class, in order
abbrev pub all_starts : Complete → List ℕ
all_starts c = map (λ p. p.at) (interfaces_at c.class) ++ map (λ p. p.at) (classes_at c.class)

abbrev pub are_classes : List ClassDescriptor → List ℕ → Bool
are_classes [] [] = true
are_classes (d ∷ classes) (at ∷ starts) = is_inside d.this_class at && are_classes classes starts
are_classes _ _ = false

abbrev pub ascend : List MethodDescriptor → Bool
ascend (a ∷ b ∷ methods) = nat_lt a.offset b.offset && ascend (b ∷ methods)
ascend _ = true

-- the offset of a method of an interface is 0
abbrev pub has_no_code : Complete → ClassDescriptor → Bool
has_no_code c d = is_own_class c.class d.this_class || list_all (λ m. m.offset == 0) d.methods

-- ---- types: they stand behind the number of pool entries and an offset of two bytes for each entry

abbrev pub type_size : TypeDescriptor → ℕ
type_size t = length (type_bytes t)

abbrev pub types_at : Descriptor → List (Placed TypeDescriptor)
types_at d = placed type_size (2 + 2 * length d.pool_types) d.types

abbrev pub is_classref : PoolEntry → Bool
is_classref (Classref class) = true
is_classref _ = false

-- the offsets of the pool entries: 0xFFFF of a Classref, of each other one the start of a type
abbrev pub pool_is_typed : Descriptor → List PoolEntry → List ℕ → Bool
pool_is_typed d [] [] = true
pool_is_typed d (entry ∷ entries) (offset ∷ offsets) =
    same_bool (is_classref entry) (offset == 0xFFFF) && (is_classref entry || begins (types_at d) offset) && pool_is_typed d entries offsets
pool_is_typed d _ _ = false

abbrev pub type_is_there : Descriptor → FieldType → Bool
type_is_there d (Described offset) = begins (types_at d) offset
type_is_there d _ = true

abbrev pub class_is_typed : Descriptor → ClassDescriptor → Bool
class_is_typed d x = list_all (λ f. type_is_there d f.type_) x.fields && list_all (λ m. begins (types_at d) m.type_offset) x.methods

-- 718. Descriptor has each class and interface once, in the order of Class, and each method of a class once, in the order of Method. It
-- has an offset for each entry of the constant pool, and the offsets of types are starts of types.
unfoldable pub descriptor_is_whole : Complete → Bool
descriptor_is_whole c =
    are_classes c.descriptor.classes (all_starts c)
    && ascend (class_methods c)
    && list_all (has_no_code c) c.descriptor.classes
    && pool_is_typed c.descriptor c.pool.entries c.descriptor.pool_types
    && list_all (class_is_typed c.descriptor) c.descriptor.classes
