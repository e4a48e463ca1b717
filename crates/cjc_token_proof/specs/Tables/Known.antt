-- The names that code, objects and scripts of a package may have.
use Rattle.std.specs.Prelude.{ℕ, List, [], ◌∷◌, ◌++◌, map, filter, flat_map, Bool, true, false, not, ◌&&◌, ◌||◌}
use Rattle.std.specs.Prelude.{if◌then◌else◌, Option, Some, None}
use Rattle.std.specs.List.{list_any}
use Rattle.std.specs.Str.{bytes_eq}
use Rattle.cjc_card_semantics.specs.Bytecode.Calculations.{Arithmetic, NullPointer, IndexOutside, NegativeSize}
use Rattle.cjc_card_semantics.specs.Bytecode.Calculations.{ClassCast, ArrayStore}
use Rattle.cjc_bytes.specs.AccessFlags.{is_abstract, is_interface}
use Rattle.cjc_bytes.specs.declared.fault.MemberId.{MemberId}
use Rattle.cjc_world.specs.ClassFile.declared.tree.ClassTree.{ClassTree}
use Rattle.cjc_world.specs.declared.image.StaticImage.{StaticImage}
use Rattle.cjc_world.specs.Classes.{Class, class_named}
use Rattle.cjc_jvm_semantics.specs.OnePackage.{declared_fields, object_fields}
use Rattle.cjc_world_proof.specs.LowerClinit.Fields.{is_cell}
use Rattle.cjc_world_proof.specs.LowerClinit.Image.{field_id}
use Rattle.cjc_components.specs.LowerNarrow.Rows.Package.{fault_name}
use Rattle.cjc_ncode.specs.ByLabel.{Callee}
use Rattle.cjc_ncode.specs.PoolOrder.{same_member}
use Rattle.cjc_token_proof.specs.ByToken.Cells.{Order, is_one_of}
use Rattle.cjc_token_proof.specs.ByToken.Classes.{Names}
use Rattle.cjc_token_proof.specs.ByToken.Supers.{has_class}
use Rattle.cjc_components.specs.Package.{Package, world}

-- an instance field of a class: one that it declares itself, or any of an imported class, whose objects hold none
abbrev pub is_field_of : MemberId → Option Class → Bool
is_field_of f None = false
is_field_of f (Some c) = c.is_imported || is_one_of f (declared_fields c)

-- an instance field of its class
abbrev pub may_name : List Class → MemberId → Bool
may_name w f = is_field_of f (class_named w f.class)

-- the same members in the same order
abbrev pub same_members : List MemberId → List MemberId → Bool
same_members [] [] = true
same_members (f ∷ fields) (g ∷ others) = same_member f g && same_members fields others
same_members fields others = false

-- the exceptions of the machine's own
abbrev pub own_exceptions : List (List ℕ)
own_exceptions = map fault_name (Arithmetic ∷ NullPointer ∷ IndexOutside ∷ NegativeSize ∷ ClassCast ∷ ArrayStore ∷ [])

-- an exception of the machine's own, which it makes whatever the export file says of it
abbrev pub is_own_exception : Class → Bool
is_own_exception c = c.is_imported && list_any (λ name. bytes_eq name c.name) own_exceptions

-- a class of which there are objects: none of an interface, and of the package none of an abstract class
abbrev pub is_holder : Option Class → Bool
is_holder None = false
is_holder (Some c) = if is_interface c.flags then is_own_exception c else (c.is_imported || not (is_abstract c.flags))

-- an object of such a class has the fields of the class
abbrev pub may_hold : List Class → (class : List ℕ) → List MemberId → Bool
may_hold w c fields = is_holder (class_named w c) && same_members fields (object_fields w c)

-- ---- static fields

-- those with cells of a class, in the order of its file
abbrev pub statics_in : ClassTree → List MemberId
statics_in c = map (field_id c.name) (filter is_cell c.fields)

-- those of the package, class by class as the list names them
abbrev pub statics_of : List ClassTree → List MemberId
statics_of classes = flat_map statics_in classes

-- their cells: references, arrays before null, and numbers behind them, 0 before others
abbrev pub order_of : StaticImage → Order
order_of image = record {
  references = map (λ a. a.field) image.arrays ++ image.nulls;
  numbers = image.zeros
      ++ map (λ v. v.field) image.others;
}

-- The names of a package, of which these calls are known.
abbrev pub known_names : (call : Callee → Bool) → Package → Names
known_names call p = record {
  class = has_class (world p);
  field = may_name (world p);
  object = may_hold (world p);
  call = call;
  statics = statics_of (let files = p.files in files.classes);
  order = order_of p.image;
}
