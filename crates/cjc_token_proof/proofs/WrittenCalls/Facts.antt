-- What is known of a package of read files that breaks no rule of classes, names, flags and interfaces.
use Rattle.cjc_jvm_semantics.specs.Linked.{Method}
use Rattle.cjc_jvm_semantics.specs.OnePackage.{method_at}
use Rattle.std.specs.Prelude.{length, ◌+◌, ◌≡◌, ℕ, ◌<◌, List, [], ◌∷◌, Some, Bool, true, false, slice_get}
use Rattle.cjc_bytes.specs.AccessFlags.{is_interface, is_static}
use Rattle.cjc_components.specs.Methods.{method_offset}
use Rattle.cjc_components.specs.Package.{Package, world}
use Rattle.cjc_world.specs.ExportFile.declared.tree.ExportClass.{ExportClass}
use Rattle.cjc_world.specs.ExportFile.declared.tree.ExportMethod.{ExportMethod}
use Rattle.cjc_world.specs.ExportFile.Supers.{classes_of}
use Rattle.cjc_world.specs.ExportFile.Supers as exports
use Rattle.cjc_token_proof.specs.Tables.Infos.{HasEntry, HasInfo}
use Rattle.cjc_tokens.specs.Members.{is_initialiser}
use Rattle.cjc_vtable.specs.Laws.{InterfaceCallsAgree, KeepsInterfaces, KeepsRules, TokensAreOnce, VirtualCallsAgree}
use Rattle.cjc_world.specs.declared.found.Found.{Found}
use Rattle.cjc_world.specs.Classes.{Class, Member, class_at, class_named, imported}
use Rattle.cjc_world.specs.Supertypes.{AreSupertypes, Supertypes, supertypes}
use Rattle.cjc_world.specs.Lookup.{member_at, object, own_method}
use Rattle.cjc_world.specs.Order.{class_order, in_order}

-- the classes of its export files
abbrev pub exported : Package → List ExportClass
exported p = let files = p.files in classes_of files.exports

pub record Facts (p : Package) : Type 0 where
  pub own : (x : List ℕ) (c : Class) → class_named (world p) x ≡ Some c → c.is_imported ≡ false → HasInfo p c
  pub file : (x : List ℕ) (c : Class) → class_named (world p) x ≡ Some c → c.is_imported ≡ true → HasEntry p c
  pub placed : (x : List ℕ) (c : Class) → class_named (world p) x ≡ Some c → class_at (world p) c.is_imported c.number
      ≡ Some c
  -- classes of export files are imported classes
  pub of_file : (y : List ℕ) (e : ExportClass) → exports.class_named (exported p) y ≡ Some e → (k : ℕ)
      × (class_named (world p) y ≡ Some (imported k e))
  pub in_file : (y : List ℕ) (d : Class) → class_named (world p) y ≡ Some d → d.is_imported ≡ true → (k : ℕ)
      × (e : ExportClass) × (exports.class_named (exported p) y ≡ Some e) × (d ≡ imported k e)
  -- an initialiser is static there
  pub plain : (y : List ℕ) (e : ExportClass) → exports.class_named (exported p) y ≡ Some e → (k : ℕ) (m : ExportMethod)
      → slice_get e.methods k ≡ Some m → is_initialiser m.name ≡ true → is_static m.flags ≡ true
  pub ordered : (i : Bool) (k : ℕ) (c : Class) → slice_get (in_order (world p) i) k ≡ Some c
      → class_named (world p) c.name ≡ Some c
  -- the superclass of a class of the package is a class, and stands before it
  pub super_there : (x s : List ℕ) (c : Class) → class_named (world p) x ≡ Some c → c.is_imported ≡ false
      → c.supers ≡ s ∷ [] → (d : Class) × (class_named (world p) s ≡ Some d) × (is_interface d.flags ≡ false)
  pub before : (i j : ℕ) (c d : Class) (s : List ℕ) → slice_get (class_order (world p)) i ≡ Some c
      → is_interface c.flags ≡ false → c.supers ≡ s ∷ [] → class_named (world p) s ≡ Some d
      → slice_get (class_order (world p)) j ≡ Some d → j < i
  pub low : (f : Found) → method_offset p f < 0xFFFF
  pub rules : KeepsRules (world p)
  pub interfaces : KeepsInterfaces (world p)
  pub are_supertypes : (xs : List (List ℕ)) → AreSupertypes (world p) xs (supertypes (world p) xs)
  pub one_supertypes : (xs : List (List ℕ)) (j k : Supertypes) → AreSupertypes (world p) xs j
      → AreSupertypes (world p) xs k → j ≡ k
  pub virtual_calls : VirtualCallsAgree (world p)
  pub interface_calls : InterfaceCallsAgree (world p)
  pub tokens_once : TokensAreOnce (world p)
  pub object_class : (c : Class) × (class_named (world p) object ≡ Some c) × (c.is_imported ≡ true)
      × (is_interface c.flags ≡ false)
  -- a class of the package has its methods in its class file
  pub filed : (x : List ℕ) (c : Class) → class_named (world p) x ≡ Some c → c.is_imported ≡ false → (i : ℕ) (m : Member)
      → slice_get c.methods i ≡ Some m
      → (k : Method) × (method_at p.files (member_at c (length c.fields + i)) ≡ Some k)
      × (k.id ≡ record { class = x; name = m.name; desc = m.desc })
  -- and none twice
  pub first_one : (x : List ℕ) (c : Class) → class_named (world p) x ≡ Some c → c.is_imported ≡ false
      → (i : ℕ) (m : Member) → slice_get c.methods i ≡ Some m → own_method false m.name m.desc c
      ≡ Some (member_at c (length c.fields + i))
