-- Methods of interfaces that scripts send, where packages are loaded together: what the joint world has for them.
use Rattle.std.specs.Prelude.{◌≡◌, ℕ, List, Some, false, slice_get, true}
use Rattle.cjc_bytes.specs.AccessFlags.{is_abstract, is_interface}
use Rattle.cjc_components.specs.Package.{Package, world}
use Rattle.cjc_joint_proof.specs.JointTables.{world_together}
use Rattle.cjc_jvm_semantics.specs.Group.{is_open, own_where}
use Rattle.cjc_jvm_semantics.specs.OnePackage.{is_constructor, is_initialiser}
use Rattle.cjc_token_proof.specs.WrittenSends.Sends.{ExportsSend}
use Rattle.cjc_world.specs.Classes.{Class, Member, class_named}
use Rattle.cjc_world.specs.Lookup.{first}
use Rattle.cjc_world.specs.Supertypes.{line}
use Rattle.cjc_world.specs.Upwards.{Below}
use Rattle.cjc_world.specs.declared.found.Found.{Found}
use Rattle.cjc_joint_whole.specs.Told.{IsDeclaredAbove}

-- A method of an interface, which is no constructor and no class initialiser, in each package that knows the interface
-- and in the joint world.
pub record FacesStand (packages : List Package) : Type 0 where
  -- what is promised of export files
  pub sends : (q : ℕ) (p : Package) → slice_get packages q ≡ Some p → ExportsSend p
  -- it is public or protected, and can be selected
  pub opened : (q k : ℕ) (p : Package) (y : List ℕ) (i : Class) (m : Member) → slice_get packages q ≡ Some p
      → class_named (world p) y ≡ Some i → is_interface i.flags ≡ true → slice_get i.methods k ≡ Some m
      → is_initialiser m.name ≡ false → is_open m.flags ≡ true
  -- an interface at or above that one declares it in the joint world
  pub declared : (q k : ℕ) (p : Package) (y : List ℕ) (i : Class) (m : Member) → slice_get packages q ≡ Some p
      → class_named (world p) y ≡ Some i → is_interface i.flags ≡ true → slice_get i.methods k ≡ Some m
      → is_open m.flags ≡ true → is_constructor m.name ≡ false
      → (d : IsDeclaredAbove (world_together packages) y m.name m.desc)
      × ((let c = d.class in is_interface c.flags) ≡ true)
  -- a class file of which objects may be has a method for it
  pub implemented : (x : List ℕ) (c : Class) → class_named (world_together packages) x ≡ Some c
      → c.is_imported ≡ false → is_interface c.flags ≡ false → is_abstract c.flags ≡ false → (k : ℕ) (z : Class)
      (m : Member) → class_named (world_together packages) z.name ≡ Some z → is_interface z.flags ≡ true
      → Below (world_together packages) x z.name → slice_get z.methods k ≡ Some m → is_open m.flags ≡ true
      → is_constructor m.name ≡ false → is_initialiser m.name ≡ false → (f : Found)
      × (first (own_where is_open m.name m.desc) (line (world_together packages) x) ≡ Some f)
