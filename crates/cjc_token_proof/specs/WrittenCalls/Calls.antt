-- What the rules of names promise of calls in narrow code, and of the classes and tokens that calls rest on (Java Card
-- Virtual Machine Specification 2.2.2, sections 4.3.7 and 7.5).
use Rattle.std.specs.Prelude.{◌≡◌, ◌⊎◌, ℕ, ◌<◌, List, [], ◌∷◌, Option, Some, None, Bool, true, false, not, position}
use Rattle.std.specs.Prelude.{slice_get}
use Rattle.cjc_bytes.specs.AccessFlags.{is_abstract, is_interface, is_static}
use Rattle.cjc_bytes.specs.declared.fault.MemberId.{MemberId}
use Rattle.cjc_jvm_semantics.specs.OnePackage.{is_initialiser, of_class}
use Rattle.cjc_token_proof.specs.Calls.Selecting.{signature}
use Rattle.cjc_components.specs.Package.{Package, world}
use Rattle.cjc_world.specs.ExportFile.declared.tree.ExportClass.{ExportClass}
use Rattle.cjc_world.specs.ExportFile.declared.tree.ExportMethod.{ExportMethod}
use Rattle.cjc_world.specs.ExportFile.Supers.{classes_of, virtual_method}
use Rattle.cjc_world.specs.ExportFile.Supers as exports
use Rattle.cjc_ncode.specs.ByLabel.{Callee, Fixed, OnObject, OnSuper, OnInterface}
use Rattle.cjc_components.specs.LowerNarrow.Rows.Package.{flags_of}
use Rattle.cjc_components.specs.LowerNarrow.Rows.Resolved.{method_found}
use Rattle.cjc_script.specs.Sorts as sorts
use Rattle.cjc_script.specs.Sorts.{Element, Shape, OfClass, OfNumbers, OfReferences}
use Rattle.cjc_tokens.specs.Lines.{line_of}
use Rattle.cjc_tokens.specs.Members.{Signature, same, signature_of}
use Rattle.cjc_tokens.specs.Methods.{interface_methods, interfaces_at}
use Rattle.cjc_tokens.specs.Slots.{slots, token}
use Rattle.cjc_vtable.specs.Calls.{finds_hidden, finds_shown, selects_shown}
use Rattle.cjc_vtable.specs.Laws.{Under, interface_named, selection}
use Rattle.cjc_world.specs.declared.found.Found.{Found}
use Rattle.cjc_world.specs.Classes.{Class, Member, class_named, imported, method_of_export}
use Rattle.cjc_world.specs.Interfaces.{known}
use Rattle.cjc_world.specs.Lookup.{object, own_method}
use Rattle.cjc_world.specs.Subtype.{is_subtype}

-- ---- classes and tokens

-- A class is of another one over superclasses, and of an interface that is one of its interfaces.
pub record KeepsSubtypes (w : List Class) : Type 0 where
  pub climbs : (x y : List ℕ) (c d : Class) → class_named w x ≡ Some c → is_interface c.flags ≡ false
      → class_named w y ≡ Some d → is_interface d.flags ≡ false → is_subtype w x y ≡ true → Under w x y
  pub implements : (x y : List ℕ) (c i : Class) → class_named w x ≡ Some c → is_interface c.flags ≡ false
      → class_named w y ≡ Some i → is_interface i.flags ≡ true → is_subtype w x y ≡ true
      → interface_named (known (interfaces_at w c)) y ≡ Some i

-- Tokens of the public and protected methods of classes fit seven bits.
abbrev pub KeepsTokens : List Class → Type 0
KeepsTokens w = (x : List ℕ) (c : Class) (s : Signature) (t : ℕ) → class_named w x ≡ Some c → is_interface c.flags
    ≡ false → token (slots (line_of w x)) s ≡ Some t → t < 128

-- What export files say: an initialiser is static, so that it is no virtual method; java/lang/Object is no interface;
-- and an interface has its methods by their places.
pub record ExportsKeep (p : Package) : Type 0 where
  pub plain : (let files = p.files in (y : List ℕ) (e : ExportClass) → exports.class_named (classes_of files.exports) y
      ≡ Some e → (k : ℕ) (m : ExportMethod) → slice_get e.methods k ≡ Some m → is_initialiser m.name ≡ true
      → is_static m.flags ≡ true)
  pub object_class : (c : Class) → class_named (world p) object ≡ Some c → is_interface c.flags ≡ false
  pub methods : (y : List ℕ) (k : ℕ) (e : ExportClass) → class_named (world p) y ≡ Some (imported k e)
      → is_interface e.flags ≡ true → (t : ℕ) (s : Signature) → slice_get (interface_methods (world p) (imported k e)) t
      ≡ Some s
      → (m : ExportMethod) × (virtual_method t e ≡ Some m) × (signature_of (method_of_export m) ≡ s)

-- No interface of the package has a static method but its initialiser.
abbrev pub NoStaticMethods : List Class → Type 0
NoStaticMethods w = (x : List ℕ) (c : Class) → class_named w x ≡ Some c → c.is_imported ≡ false → is_interface c.flags
    ≡ true → (k : ℕ) (m : Member) → slice_get c.methods k ≡ Some m → is_static m.flags ≡ true → is_initialiser m.name
    ≡ true

-- A class whose objects are there, of the package one that is not abstract; arrays have the methods of
-- java/lang/Object.
pub data Receives (w : List Class) : Option (Shape (List ℕ)) → Type 0 where
  none : Receives w None
  numbers : {element : Element} → Receives w (Some (OfNumbers element))
  references : {x : List ℕ} → Receives w (Some (OfReferences x))
  one_of : {x : List ℕ} (c : Class) → class_named w x ≡ Some c → is_interface c.flags ≡ false → (c.is_imported ≡ false
      → is_abstract c.flags ≡ false) → Receives w (Some (OfClass x))

-- ---- calls

-- A virtual method that is sought from a class: a public or protected one that is found there, a package-visible one,
-- or one that the class got from an interface,
-- for which selection on the class itself, and on each class below it whose objects are there, gives a public or
-- protected one.
pub data IsSought (w : List Class) (m : MemberId) : Type 0 where
  shown : finds_shown (line_of w m.class) (signature m) ≡ true → finds_hidden (line_of w m.class) (signature m) ≡ false
      → IsSought w m
  hidden : finds_hidden (line_of w m.class) (signature m) ≡ true → IsSought w m
  got : (t : ℕ) → token (slots (line_of w m.class)) (signature m) ≡ Some t
      → finds_hidden (line_of w m.class) (signature m) ≡ false
      → ((x : List ℕ) (c : Class) (f : Found) → class_named w x ≡ Some c → is_interface c.flags ≡ false → (x ≡ m.class)
      ⊎ (c.is_imported ≡ false → is_abstract c.flags ≡ false)
      → Under w x m.class → selection w x (signature m) ≡ Some f → selects_shown (line_of w x) (signature m) ≡ true)
      → IsSought w m

-- What a call of narrow code names.
pub data IsNamed (w : List Class) : Callee → Type 0 where
  -- a static method, a constructor or a private method, by the class that declares it
  fixed : {on : Bool} {m : MemberId} (c : Class) (f : Found) → class_named w m.class ≡ Some c → is_interface c.flags
      ≡ false → is_initialiser m.name ≡ false → own_method false m.name m.desc c ≡ Some f → IsNamed w (Fixed on m)
  -- a virtual method of a class
  on_object : {m : MemberId} (d : Class) → class_named w m.class ≡ Some d → is_interface d.flags ≡ false
      → is_initialiser m.name ≡ false → IsSought w m → IsNamed w (OnObject m)
  -- a method of the superclass, by the class that holds the code: both have it by one token
  on_super : {m : MemberId} (c d : Class) (super : List ℕ) → class_named w m.class ≡ Some c → c.is_imported ≡ false
      → is_interface c.flags ≡ false → c.supers ≡ super ∷ [] → class_named w super ≡ Some d → is_initialiser m.name
      ≡ false
      → IsSought w (of_class super m) → finds_hidden (line_of w m.class) (signature m) ≡ finds_hidden (line_of w super)
      (signature m) → IsNamed w (OnSuper m)
  -- a method of an interface
  on_interface : {words : ℕ} {m : MemberId} (i : Class) (k : ℕ) → class_named w m.class ≡ Some i → is_interface i.flags
      ≡ true → is_initialiser m.name ≡ false → position (λ s. same s (signature m)) (interface_methods w i) ≡ Some k
      → IsNamed w (OnInterface words m)

-- ---- words of arguments

-- What the rules of names promise of the words that a call takes: it names a method by a method's descriptor, and a
-- static one without receiver.
pub data TakesWords (w : List Class) : Callee → Type 0 where
  fixed_words : {on : Bool} {m : MemberId} (s : sorts.Signature) → sorts.signature_of m.desc ≡ Some s
      → on ≡ not (is_static (flags_of (method_found w m))) → TakesWords w (Fixed on m)
  virtual_words : {m : MemberId} (s : sorts.Signature) → sorts.signature_of m.desc ≡ Some s → TakesWords w (OnObject m)
  super_words : {m : MemberId} (s : sorts.Signature) → sorts.signature_of m.desc ≡ Some s → TakesWords w (OnSuper m)
  interface_words : {words : ℕ} {m : MemberId} → TakesWords w (OnInterface words m)
