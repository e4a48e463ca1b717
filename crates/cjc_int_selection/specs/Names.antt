-- What the instructions that are written in int mode name: what is named outside int mode.
use Rattle.std.specs.Prelude.{◌≡◌, ◌<◌, ℕ, List, None, Some, Bool, true, false, slice_get}
use Rattle.cjc_int_narrow.specs.Bytes.declared.fault.MemberId.{MemberId}
use Rattle.cjc_int_narrow.specs.Bytecode.Jvm as jvm
use Rattle.cjc_int_narrow.specs.Bytecode.declared.insn.JOp.{JOp}
use Rattle.cjc_int_narrow.specs.Bytecode.declared.insn.JOp.TheVariants as jop
use Rattle.cjc_int_narrow.specs.Script.Sorts.{field_sort}
use Rattle.cjc_ncode.specs.IntCode.IntCode.{Reached}
use Rattle.cjc_ncode.specs.Written.{Resolution, nargs_of, static_access, written}
use Rattle.cjc_ncode.specs.declared.narrow.NInsn.{NInsn}
use Rattle.cjc_ncode.specs.declared.narrow.NInsn.TheVariants as insns
use Rattle.cjc_ncode.specs.declared.narrow.PoolKey.TheVariants as keys
use Rattle.cjc_int_narrow.specs.LowerIntProof.Operands.{names_nothing}

-- an instruction of a class file that names a class or a member
abbrev pub has_name : JOp → Bool
has_name (jop.Static put field) = true
has_name (jop.Field put field) = true
has_name (jop.Call op method) = true
has_name (jop.New class) = true
has_name (jop.ANewArray class) = true
has_name (jop.CheckCast class) = true
has_name (jop.InstanceOf class) = true
has_name _ = false

-- A narrow instruction names nothing, or it is one that is written for this instruction of a class file outside int
-- mode too: of a static field its access, which a constant has only where it is put.
pub data NamesAs (r : Resolution) (op : JOp) (insn : NInsn) : Type 0 where
  nothing : names_nothing insn ≡ true → NamesAs r op insn
  static_field : (put : Bool) (f : MemberId) → op ≡ jop.Static put f → (put ≡ false → r.constant f ≡ None)
      → insn ≡ insns.Named (static_access put (field_sort f.desc)) (keys.StaticField (r.field f)) → NamesAs r op insn
  outside : has_name op ≡ true → (k : ℕ) → slice_get (written r (λ o. 0) op) k ≡ Some insn → NamesAs r op insn

-- It names nothing, or as one of these reached instructions does.
pub data NamesAsOneOf (r : Resolution) (reached : List Reached) (insn : NInsn) : Type 0 where
  no_name : names_nothing insn ≡ true → NamesAsOneOf r reached insn
  as_one : (k : ℕ) (i : Reached) → slice_get reached k ≡ Some i → NamesAs r (let j = i.insn in j.op) insn
      → NamesAsOneOf r reached insn

-- one byte says the words of the method that an invokeinterface calls
abbrev pub WordsFit : JOp → Type 0
WordsFit (jop.Call op m) = op ≡ jvm.invokeinterface → nargs_of m < 256
WordsFit _ = Unit {0}
