-- What is promised of interfaces, each by itself, for what scripts send (Java Card Virtual Machine Specification 2.2.2,
-- section 4.3.7.7).
use Rattle.std.specs.Prelude.{◌≡◌, ℕ, List, Some, Bool, true, false, position, slice_get}
use Rattle.cjc_bytes.specs.AccessFlags.{is_interface}
use Rattle.cjc_components.specs.Package.{Package, world}
use Rattle.cjc_world.specs.ExportFile.declared.tree.ExportClass.{ExportClass}
use Rattle.cjc_world.specs.ExportFile.declared.tree.ExportMethod.{ExportMethod}
use Rattle.cjc_tokens.specs.Members.{In, all_methods, has, is_initialiser, same, signature_of}
use Rattle.cjc_tokens.specs.Methods.{interface_methods}
use Rattle.cjc_world.specs.Classes.{Class, Member, class_named, imported, method_of_export}
use Rattle.cjc_world.specs.Supertypes.{line}
use Rattle.cjc_world.specs.Lookup.{is_selectable, object}

-- Each method of an interface of the package, or of an export file, is neither private nor static, its initialiser
-- aside.
abbrev pub InterfacesAsk : (imported : Bool) → List Class → Type 0
InterfacesAsk imported w =
    (x : List ℕ) (i : Class) → class_named w x ≡ Some i → is_interface i.flags ≡ true → i.is_imported ≡ imported
    → (k : ℕ) (m : Member) → slice_get i.methods k ≡ Some m → is_initialiser m.name ≡ false → is_selectable m.flags
    ≡ true

-- An interface of an export file has each of its methods, its initialiser aside, at the place of the method's token.
abbrev pub ExportsListInterfaces : Package → Type 0
ExportsListInterfaces p =
    (y : List ℕ) (k : ℕ) (e : ExportClass) → class_named (world p) y ≡ Some (imported k e) → is_interface e.flags ≡ true
    → (j : ℕ) (m : ExportMethod) → slice_get e.methods j ≡ Some m → is_initialiser m.name ≡ false
    → position (λ s. same s (signature_of (method_of_export m))) (interface_methods (world p) (imported k e))
    ≡ Some m.token

-- What export files say of interfaces and of java/lang/Object. Left out are a private or static method of an interface;
-- an interface that lists a method twice; and a private or static method of java/lang/Object with the name and
-- descriptor of an interface's method.
pub record ExportsSend (p : Package) : Type 0 where
  pub ask : InterfacesAsk true (world p)
  pub listed : ExportsListInterfaces p
  -- what java/lang/Object has by the name and descriptor of an interface's method is neither private nor static
  pub objects : (y : List ℕ) (i : Class) → class_named (world p) y ≡ Some i → is_interface i.flags ≡ true
      → (m : Member) → In m (all_methods (line (world p) object)) → has (interface_methods (world p) i) (signature_of m)
      ≡ true
      → is_selectable m.flags ≡ true
