-- What the fields of new objects hold at first, kept by the names of classes.
use Rattle.std.specs.Prelude.{◌≡◌, ℕ, List, [], ◌∷◌, map, reverse, Option, Some}
use Rattle.std.specs.HashMap.{get_by}
use Rattle.std.specs.List.{flat_map}
use Rattle.std.specs.Str.{bytes_eq}
use Rattle.cjc_jvm_step.specs.Script.declared.report.FieldValue.{FieldValue}
use Rattle.cjc_world.specs.ClassFile.declared.tree.ClassTree.{ClassTree}
use Rattle.cjc_world.specs.Classes.{Class, class_named, field_of_class}
use Rattle.cjc_world.specs.Supertypes.{supertypes, upwards}
use Rattle.cjc_jvm_semantics.specs.Effects.{fresh_field}
use Rattle.cjc_jvm_semantics.specs.OnePackage.{declared_fields, instance_fields}
use Rattle.cjc_jvm_link.specs.declared.fresh.Fresh.{Fresh}

-- the fields that some classes and their superclasses declare, a superclass's before its own, with what they hold at
-- first
abbrev pub fresh_fields : List Class → List (List ℕ) → List FieldValue
fresh_fields w names = map fresh_field (flat_map declared_fields (reverse (upwards (supertypes w names))))

-- what is kept for a name
abbrev pub fresh_in : Fresh → List ℕ → Option (List FieldValue)
fresh_in fresh name = get_by (λ k. bytes_eq name k.items) fresh.fields

-- What is kept for a name are the fields of that name's class.
abbrev pub AreFresh : List Class → Fresh → Type 0
AreFresh w fresh = (name : List ℕ) (fields : List FieldValue) → fresh_in fresh name ≡ Some fields
    → fields ≡ fresh_fields w (name ∷ [])

-- Something is kept for a name.
abbrev pub Has : Fresh → List ℕ → Type 0
Has fresh name = (fields : List FieldValue) × (fresh_in fresh name ≡ Some fields)

-- Something is kept for the class of a name, if there is one.
abbrev pub HasClass : List Class → Fresh → List ℕ → Type 0
HasClass w fresh name = (c : Class) → class_named w name ≡ Some c → Has fresh name

-- Something is kept for each class.
abbrev pub HasAll : List Class → Fresh → Type 0
HasAll w fresh = (name : List ℕ) → HasClass w fresh name

-- Something is kept for the class of each of these names.
abbrev pub HasEach : List Class → Fresh → List (List ℕ) → Type 0
HasEach w fresh [] = Unit {0}
HasEach w fresh (name ∷ names) = HasClass w fresh name × HasEach w fresh names

-- What was kept is kept.
abbrev pub Keeps : (old new : Fresh) → Type 0
Keeps old new = (name : List ℕ) → Has old name → Has new name

-- the fields of objects that a class file declares, with what they hold at first
abbrev pub own_fields : ClassTree → List FieldValue
own_fields class = map fresh_field (instance_fields class.name (map field_of_class class.fields))
