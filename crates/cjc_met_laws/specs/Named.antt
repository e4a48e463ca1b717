-- What virtual calls in class files name.
use Rattle.std.specs.Prelude.{◌≡◌, List}
use Rattle.cjc_bytes.specs.declared.fault.MemberId.{MemberId}
use Rattle.cjc_classfile.specs.declared.tree.ClassTree.{ClassTree}
use Rattle.cjc_code.specs.declared.insn.JOp.TheVariants as jop
use Rattle.cjc_code.specs.declared.method_code.MethodCode.{MethodCode}
use Rattle.cjc_components.specs.Package.{Package, world}
use Rattle.cjc_narrow.specs.Resolved.{method_found, special_by, virtual_by}
use Rattle.cjc_narrow_laws.specs.Unbroken.{IsInsnOf}
use Rattle.cjc_ncode.specs.ByLabel.{OnObject, OnSuper}
use Rattle.cjc_ncode.specs.declared.narrow.PoolKey.TheVariants as keys
use Rattle.cjc_world.specs.Classes.{class_named}
use Rattle.cjc_written_calls.specs.Calls.{IsNamed}

-- An invokevirtual names what calls on objects can name, and an invokespecial of neither a constructor nor a private
-- method what calls of superclasses can.
pub record VirtualCallsAreNamed (p : Package) (codes : List MethodCode) : Type 0 where
  pub virtual : (class : ClassTree) (id : MemberId) → IsInsnOf p.files codes class (jop.Call 0xB6 id)
      → IsNamed (world p) (OnObject (virtual_by (world p) id (class_named (world p) id.class)))
  pub above : (class : ClassTree) (id m : MemberId) → IsInsnOf p.files codes class (jop.Call 0xB7 id)
      → special_by class.name id (method_found (world p) id) ≡ keys.Super m → IsNamed (world p) (OnSuper m)
