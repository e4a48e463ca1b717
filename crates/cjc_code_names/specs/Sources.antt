-- What an instruction of narrow code names, by the instruction of the class file that it is written for.
use Rattle.std.specs.Prelude.{◌≡◌, ◌==◌, ℕ, List, Option, Some, None, Bool, true, false}
use Rattle.cjc_bytes.specs.declared.fault.MemberId.{MemberId}
use Rattle.cjc_code.specs.declared.insn.JOp.{JOp}
use Rattle.cjc_code.specs.declared.insn.JOp.TheVariants as jop
use Rattle.cjc_ncode.specs.declared.narrow.NInsn.{NInsn}
use Rattle.cjc_ncode.specs.declared.narrow.NInsn.TheVariants as insns
use Rattle.cjc_ncode.specs.declared.narrow.PoolKey.TheVariants as keys
use Rattle.cjc_ncode.specs.Written.{Resolution, field_access, nargs_of, static_access}
use Rattle.cjc_script.specs.Sorts.{OfClass, OfReferences, Shape, field_sort, shape_named}

-- it names nothing
abbrev pub names_nothing : NInsn → Bool
names_nothing (insns.Named op key) = false
names_nothing (insns.Interface nargs m) = false
names_nothing (insns.TypeTest op kind (Some class)) = false
names_nothing insn = true

-- a class, or an array of its objects
pub data NamesClass (class : List ℕ) : Option (Shape (List ℕ)) → Type 0 where
  itself : NamesClass class (Some (OfClass class))
  array : NamesClass class (Some (OfReferences class))

-- It is one of those that are written for an instruction of a class file.
pub data IsWrittenFor (r : Resolution) : JOp → NInsn → Type 0 where
  plain : {op : JOp} {insn : NInsn} → names_nothing insn ≡ true → IsWrittenFor r op insn
  of_static : {put : Bool} {f : MemberId} → r.constant f ≡ None → IsWrittenFor r (jop.Static put f) (insns.Named (static_access put (field_sort f.desc)) (keys.StaticField (r.field f)))
  of_field : {put : Bool} {f : MemberId} → IsWrittenFor r (jop.Field put f) (insns.Named (field_access put (r.is_near f) (field_sort f.desc)) (keys.Field (r.field f)))
  virtual_call : {op : ℕ} {m : MemberId} → op ≡ 0xB6 → IsWrittenFor r (jop.Call op m) (insns.Named 0x8B (r.virtual m))
  special_call : {op : ℕ} {m : MemberId} → op ≡ 0xB7 → IsWrittenFor r (jop.Call op m) (insns.Named 0x8C (r.special m))
  static_call : {op : ℕ} {m : MemberId} → (op == 0xB6) ≡ false → (op == 0xB7) ≡ false → (op == 0xB9) ≡ false → IsWrittenFor r (jop.Call op m) (insns.Named 0x8D (r.static m))
  interface_call : {op : ℕ} {m : MemberId} → op ≡ 0xB9 → IsWrittenFor r (jop.Call op m) (insns.Interface (nargs_of m) (r.interface m))
  of_class : {class : List ℕ} → IsWrittenFor r (jop.New class) (insns.Named 0x8F (keys.Class class))
  of_array : {class : List ℕ} → IsWrittenFor r (jop.ANewArray class) (insns.Named 0x91 (keys.Class class))
  of_cast : {name class : List ℕ} {op kind : ℕ} → NamesClass class (shape_named name) → IsWrittenFor r (jop.CheckCast name) (insns.TypeTest op kind (Some class))
  of_test : {name class : List ℕ} {op kind : ℕ} → NamesClass class (shape_named name) → IsWrittenFor r (jop.InstanceOf name) (insns.TypeTest op kind (Some class))
