-- The premise on export files, said of them alone: they do not contradict one another in the tokens of virtual methods
-- (Java Card Virtual Machine Specification 2.2.2, sections 4.3.7.6 and 5.9).
use Rattle.std.specs.Prelude.{◌≡◌, ℕ, List, ◌++◌, map, false, slice_get, Some}
use Rattle.cjc_bytes.specs.AccessFlags.{is_interface}
use Rattle.cjc_world.specs.ExportFile.declared.tree.ExportClass.{ExportClass}
use Rattle.cjc_world.specs.ExportFile.declared.tree.ExportMethod.{ExportMethod}
use Rattle.cjc_world.specs.ExportFile.declared.tree.ExportTree.{ExportTree}
use Rattle.cjc_token_proof.specs.Subset.Members.{imports}
use Rattle.cjc_tokens.specs.Members.{all_methods}
use Rattle.cjc_vtable.specs.Calls.{IsOneToOne}
use Rattle.cjc_world.specs.Classes.{Class, method_of_export, numbered}
use Rattle.cjc_world.specs.Supertypes.{supertypes, upwards}

-- the classes of the export files, and of no other file
abbrev pub world_of : List ExportTree → List Class
world_of exports = numbered 0 (imports exports)

-- so it is with each class of the export files
abbrev pub OfEach : List ExportTree → (ExportClass → Type 0) → Type 0
OfEach exports P = (n : ℕ) (c : ExportClass) → slice_get (imports exports) n ≡ Some c → P c

-- so it is with each method of a class
abbrev pub OfMethods : ExportClass → (ExportMethod → Type 0) → Type 0
OfMethods c P = (k : ℕ) (m : ExportMethod) → slice_get c.methods k ≡ Some m → P m

-- No two things are said of a virtual method.
pub record ExportsAreFair (exports : List ExportTree) : Type 0 where
  -- Along a class that is no interface and its superclasses one name and descriptor has one virtual token, and one
  -- virtual token has one name and descriptor.
  -- The tokens of an interface's methods are counted apart from those of its superclass java/lang/Object.
  pub tokens : OfEach exports (λ c. is_interface c.flags ≡ false → IsOneToOne (map method_of_export c.methods
      ++ all_methods (upwards (supertypes (world_of exports) c.supers))))
