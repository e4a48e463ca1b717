-- The tokens of a package and of the classes that its export files describe, all together.
use Rattle.std.specs.Prelude.{ℕ, ◌+◌, ◌-◌, ◌==◌, List, [], ◌∷◌, ◌++◌, map, slice_get, nat_lt, position, Bool, true}
use Rattle.std.specs.Prelude.{false, is_some, if◌then◌else◌, Option, Some, None, option_and_then}
use Rattle.cjc_world.specs.ClassFile.declared.tree.ClassTree.{ClassTree}
use Rattle.cjc_world.specs.ExportFile.declared.tree.ExportField.{ExportField}
use Rattle.cjc_world.specs.ExportFile.declared.tree.ExportMethod.{ExportMethod}
use Rattle.cjc_world.specs.ExportFile.declared.tree.ExportClass.{ExportClass}
use Rattle.cjc_world.specs.ExportFile.declared.tree.ExportTree.{ExportTree}
use Rattle.cjc_world.specs.declared.found.Found.{Found}
use Rattle.cjc_world.specs.Files.{Files}
use Rattle.cjc_world.specs.Classes.{Class, declared, all_classes}
use Rattle.cjc_bytes.specs.AccessFlags.{is_interface}
use Rattle.cjc_world.specs.Exported.{is_exported}
use Rattle.cjc_world.specs.Added.{added}
use Rattle.cjc_tokens.specs.Members.{signature_of, is_initialiser}
use Rattle.cjc_tokens.specs.Lines.{line_at}
use Rattle.cjc_tokens.specs.Slots.{hidden_slots, shown_token, row, hidden_row}
use Rattle.cjc_tokens.specs.Fields.{field_tokens, instance_tokens}
use Rattle.cjc_tokens.specs.Methods.{interface_methods, interface_row, interface_token, class_method_tokens}

-- ---- the tokens of one class

-- what is kept of a class of the package
pub record OfClass : Type 0 where
  -- its own token, where it is exported
  pub class : Option ℕ
  -- those of its fields, its methods and the methods that are added to it, in this order
  pub members : List (Option ℕ)
  -- those of its instance fields by the place of the field
  pub instances : List (Option ℕ)
  -- the method that each public token means, of an interface each of its tokens
  pub public_methods : List (Option Found)
  -- the package-visible method that each token means, the token without its high bit
  pub package_methods : List (Option Found)

-- the tokens of the methods of an interface; of a class those of its methods and of the methods that it gets
abbrev pub method_tokens : List Class → (exported : Bool) → Class → List (Option ℕ)
method_tokens w exported c =
    if is_interface c.flags then map (interface_token (interface_methods w c)) c.methods
    else class_method_tokens exported (shown_token (line_at w c)) (hidden_slots (line_at w c)) c.methods 0 c.methods
    ++ map (λ m. shown_token (line_at w c) (signature_of m)) (added w c)

-- an interface has no package-visible methods
abbrev pub of_class : List Class → (applets : Bool) → (exported_before number : ℕ) → ClassTree → OfClass
of_class w applets before number c = record {
  class = if is_exported w applets (declared number c) then Some before else None;
  members = field_tokens (is_exported w applets (declared number c)) c.fields 0 c.fields
      ++ method_tokens w (is_exported w applets (declared number c)) (declared number c);
  instances = instance_tokens c.fields 0 c.fields;
  public_methods = if is_interface c.flags then interface_row w (declared number c)
      else row (line_at w (declared number c));
  package_methods = if is_interface c.flags then [] else hidden_row (line_at w (declared number c));
}

-- the count, and one more where the class is exported
abbrev pub one_more : Bool → ℕ → ℕ
one_more true n = n + 1
one_more false n = n

-- Those of the class files in list order, from one on, where so many exported ones stand before it.
unfoldable pub classes_from : List Class → (applets : Bool) → (exported_before number : ℕ) → List ClassTree
    → List OfClass
classes_from w applets before k [] = []
classes_from w applets before k (c ∷ cs) = of_class w applets before k c
    ∷ classes_from w applets (one_more (is_exported w applets (declared k c)) before) (k + 1) cs

-- ---- imported classes: the tokens of their export files

-- the token of a field of an export file; a constant has none
abbrev pub listed_field_token : ExportField → Option ℕ
listed_field_token f = if is_some f.constant then None else Some f.token

-- the token of a method of an export file; <clinit> has none
abbrev pub listed_method_token : ExportMethod → Option ℕ
listed_method_token m = if is_initialiser m.name then None else Some m.token

-- the tokens of the fields of an imported class, then those of its methods
abbrev pub of_import : ExportClass → List (Option ℕ)
of_import c = map listed_field_token c.fields ++ map listed_method_token c.methods

-- those of all imported classes, in list order and as they stand in their files
abbrev pub imports_of : List ExportTree → List (List (Option ℕ))
imports_of [] = []
imports_of (t ∷ ts) = map of_import t.classes ++ imports_of ts

-- ---- all together

-- the tokens of a package and of its imports
pub record Assigned : Type 0 where
  -- of the package's classes, in list order
  pub classes : List OfClass
  -- of the members of all imported classes, in list order and as they stand in their files
  pub imports : List (List (Option ℕ))

-- the tokens of a package, with applets or without, and of its imports
unfoldable pub assigned : (applets : Bool) → Files → Assigned
assigned applets files = record {
  classes = classes_from (all_classes files) applets 0 0 files.classes;
  imports = imports_of files.exports;
}

-- ---- look-up, both ways

-- what is there, where both are there
abbrev pub joined : {A : Type 0} → Option (Option A) → Option A
joined None = None
joined (Some o) = o

-- the token of a class of the package
abbrev pub token_of_class : Assigned → (class : ℕ) → Option ℕ
token_of_class a class = option_and_then (λ c. c.class) (slice_get a.classes class)

-- the token of a field or method
abbrev pub token_of_member : Assigned → Found → Option ℕ
token_of_member a f =
    if f.imported then option_and_then (λ ms. joined (slice_get ms f.member)) (slice_get a.imports f.class)
    else option_and_then (λ c. joined (slice_get c.members f.member)) (slice_get a.classes f.class)

-- The method that a token means in a class or interface of the package: package-visible ones have the high bit.
abbrev pub method_of_token : Assigned → (class token : ℕ) → Option Found
method_of_token a class token =
    if nat_lt token 128 then option_and_then (λ c. joined (slice_get c.public_methods token))
    (slice_get a.classes class)
    else option_and_then (λ c. joined (slice_get c.package_methods (token - 128))) (slice_get a.classes class)

-- the methods of a class by their public tokens, none where there is no class
abbrev pub public_in : Option OfClass → List (Option Found)
public_in None = []
public_in (Some c) = c.public_methods

-- the package-visible ones, by the tokens without the high bit
abbrev pub package_in : Option OfClass → List (Option Found)
package_in None = []
package_in (Some c) = c.package_methods

-- the methods of a class of the package by their tokens
abbrev pub public_methods_of : Assigned → (class : ℕ) → List (Option Found)
public_methods_of a class = public_in (slice_get a.classes class)

-- the package-visible ones, by the tokens without the high bit
abbrev pub package_methods_of : Assigned → (class : ℕ) → List (Option Found)
package_methods_of a class = package_in (slice_get a.classes class)

-- there is a token, and it is this one
abbrev pub has_token : ℕ → Option ℕ → Bool
has_token t None = false
has_token t (Some u) = u == t

-- the instance field that a class declares with a token
abbrev pub field_of_token : Assigned → (class token : ℕ) → Option ℕ
field_of_token a class token = option_and_then (λ c. position (λ o. has_token token o) c.instances)
    (slice_get a.classes class)
