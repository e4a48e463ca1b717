-- What an instruction of narrow code names, by the instruction of the class file that it is written for.
use Rattle.std.specs.Prelude.{◌≡◌, ◌==◌, ℕ, List, Option, Some, None, Bool, true, false}
use Rattle.cjc_bytes.specs.declared.fault.MemberId.{MemberId}
use Rattle.cjc_code.specs.declared.insn.JOp.{JOp}
use Rattle.cjc_code.specs.declared.insn.JOp.TheVariants as jop
use Rattle.cjc_code.specs.Jvm as jvm
use Rattle.cjc_ncode.specs.declared.narrow.NInsn.{NInsn}
use Rattle.cjc_ncode.specs.declared.narrow.NInsn.TheVariants as insns
use Rattle.cjc_ncode.specs.declared.narrow.PoolKey.TheVariants as keys
use Rattle.cjc_ncode.specs.Written.{Resolution, field_access, nargs_of, static_access, this_access}
use Rattle.cjc_script.specs.Sorts.{OfClass, OfReferences, Shape, field_sort, shape_named}
use Rattle.cjc_card_semantics.specs.CapRead.Card as card

-- it names nothing
abbrev pub names_nothing : NInsn → Bool
names_nothing (insns.Named op key) = false
names_nothing (insns.Interface nargs m) = false
names_nothing (insns.TypeTest op kind (Some class)) = false
names_nothing insn = true

-- a class, or an array of its objects
pub data NamesClass (class : List ℕ) : Option (Shape (List ℕ)) → Type 0 where
  itself : NamesClass class (Some (OfClass class))
  array : NamesClass class (Some (OfReferences class))

-- It is one of those that are written for an instruction of a class file.
pub data IsWrittenFor (r : Resolution) : JOp → NInsn → Type 0 where
  plain : {op : JOp} {insn : NInsn} → names_nothing insn ≡ true → IsWrittenFor r op insn
  of_static : {put : Bool} {f : MemberId} → r.constant f ≡ None
      → IsWrittenFor r (jop.Static put f) (insns.Named (static_access put (field_sort f.desc))
      (keys.StaticField (r.field f)))
  of_field : {put : Bool} {f : MemberId}
      → IsWrittenFor r (jop.Field put f) (insns.Named (field_access put (r.is_near f) (field_sort f.desc))
      (keys.Field (r.field f)))
  of_own_field : {put : Bool} {f : MemberId}
      → IsWrittenFor r (jop.Field put f) (insns.Named (this_access put (field_sort f.desc)) (keys.Field (r.field f)))
  virtual_call : {op : ℕ} {m : MemberId} → op ≡ jvm.invokevirtual
      → IsWrittenFor r (jop.Call op m) (insns.Named card.invokevirtual (r.virtual m))
  special_call : {op : ℕ} {m : MemberId} → op ≡ jvm.invokespecial
      → IsWrittenFor r (jop.Call op m) (insns.Named card.invokespecial (r.special m))
  static_call : {op : ℕ} {m : MemberId} → (op == jvm.invokevirtual) ≡ false → (op == jvm.invokespecial) ≡ false
      → (op == jvm.invokeinterface) ≡ false
      → IsWrittenFor r (jop.Call op m) (insns.Named card.invokestatic (r.static m))
  interface_call : {op : ℕ} {m : MemberId} → op ≡ jvm.invokeinterface
      → IsWrittenFor r (jop.Call op m) (insns.Interface (nargs_of m) (r.interface m))
  of_class : {class : List ℕ} → IsWrittenFor r (jop.New class) (insns.Named card.new (keys.Class class))
  of_array : {class : List ℕ} → IsWrittenFor r (jop.ANewArray class) (insns.Named card.anewarray (keys.Class class))
  of_cast : {name class : List ℕ} {op kind : ℕ} → NamesClass class (shape_named name)
      → IsWrittenFor r (jop.CheckCast name) (insns.TypeTest op kind (Some class))
  of_test : {name class : List ℕ} {op kind : ℕ} → NamesClass class (shape_named name)
      → IsWrittenFor r (jop.InstanceOf name) (insns.TypeTest op kind (Some class))
