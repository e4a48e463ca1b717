-- Which methods calls and scripts can reach, and of which classes receivers are.
use Rattle.std.specs.Prelude.{◌≡◌, ◌⊎◌, List, ℕ, true, false, Some}
use Rattle.cjc_bytes.specs.AccessFlags.{is_abstract, is_interface, is_static}
use Rattle.cjc_bytes.specs.declared.fault.MemberId.{MemberId}
use Rattle.cjc_world.specs.ClassFile.Code.{CodeTree}
use Rattle.cjc_world.specs.ClassFile.declared.tree.ClassTree.{ClassTree}
use Rattle.cjc_world.specs.ClassFile.declared.tree.MethodTree.{MethodTree}
use Rattle.cjc_world.specs.Classes.{Class, all_classes, class_named}
use Rattle.cjc_world.specs.Files.{Files}
use Rattle.cjc_jvm_semantics.specs.Linked.{Abroad, Callee, Inside, Method}
use Rattle.cjc_jvm_semantics.specs.OnePackage.{method_by}
use Rattle.cjc_world_proof.specs.Calls.Solid.{IsOwn}
use Rattle.cjc_world.specs.Upwards.{Below}

-- A method of the package with code, of this name and descriptor.
pub record IsOwnCode (files : Files) (id : MemberId) (m : Method) : Type 0 where
  pub class : ClassTree
  pub method : MethodTree
  pub tree : CodeTree
  pub own : IsOwn files class method
  pub is_code : method.code ≡ Some tree
  pub is : m ≡ method_by class method (Some tree)
  pub name : method.name ≡ id.name
  pub desc : method.desc ≡ id.desc

-- A call reaches a method of the package with code, of which something holds, or an imported one.
pub data IsTarget (files : Files) (id : MemberId) (P : ClassTree → MethodTree → Type 0) : Callee → Type 0 where
  inside : {m : Method} (own : IsOwnCode files id m) → P own.class own.method → IsTarget files id P (Inside m)
  abroad : {event : MemberId} → event.desc ≡ id.desc → IsTarget files id P (Abroad event)

-- A class of objects, or java/lang/Object for arrays: no interface, and imported or not abstract.
pub record IsReceiver (w : List Class) (x : List ℕ) : Type 0 where
  pub class : Class
  pub named : class_named w x ≡ Some class
  pub no_interface : is_interface class.flags ≡ false
  pub made : (class.is_imported ≡ true) ⊎ (is_abstract class.flags ≡ false)

-- A method of the package that a script sends, of a class that the object's is of.
pub record IsSentTo (files : Files) (x : List ℕ) (id : MemberId) (m : Method) : Type 0 where
  pub code : IsOwnCode files id m
  pub on_object : is_static (let k = code.method in k.flags) ≡ false
  pub below : Below (all_classes files) x (let t = code.class in t.name)
