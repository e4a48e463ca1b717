-- What narrow code names for a call of a class file.
use Rattle.std.specs.Prelude.{◌≡◌, ℕ, List, [], ◌∷◌, Option, true, false}
use Rattle.cjc_bytes.specs.declared.fault.MemberId.{MemberId}
use Rattle.cjc_code.specs.declared.insn.JOp.TheVariants as jop
use Rattle.cjc_code.specs.Jvm as jvm
use Rattle.cjc_script.specs.declared.value.Value.{Value}
use Rattle.cjc_card_semantics.specs.Bytecode.Effects as narrow
use Rattle.cjc_ncode.specs.declared.narrow.NInsn.{NInsn}
use Rattle.cjc_ncode.specs.declared.narrow.PoolKey.TheVariants as keys
use Rattle.cjc_ncode.specs.Written.{Resolution, written, nargs_of}
use Rattle.cjc_ncode.specs.ByLabel.{Callee, Fixed, OnObject, OnSuper, OnInterface, Named, classes, operation}
use Rattle.cjc_jvm_semantics.specs.Linked.{Method, Linked}
use Rattle.cjc_jvm_semantics.specs.Effects.{Store}
use Rattle.cjc_jvm_semantics.specs.Effects as effects
use Rattle.cjc_narrow_proof.specs.Selection.Relation.{NMemory}

-- By the opcode of the call and by what its member stands for: a static method, a constructor or a private method, a
-- method of a
-- superclass, a virtual method, a method of an interface.
pub data Names (r : Resolution) : (op : ℕ) → MemberId → Callee → Type 0 where
  a_static : {id method : MemberId} → r.static id ≡ keys.StaticMethod method
      → Names r jvm.invokestatic id (Fixed false method)
  a_direct : {id method : MemberId} → r.special id ≡ keys.StaticMethod method
      → Names r jvm.invokespecial id (Fixed true method)
  a_super : {id method : MemberId} → r.special id ≡ keys.Super method → Names r jvm.invokespecial id (OnSuper method)
  a_virtual : {id method : MemberId} → r.virtual id ≡ keys.Virtual method
      → Names r jvm.invokevirtual id (OnObject method)
  an_interface : {id : MemberId} → Names r jvm.invokeinterface id (OnInterface (nargs_of id) (r.interface id))

-- both call, whatever frames they stand in
pub record Invokes (by : Linked) (l : Named) (m : Method) (op : ℕ) (id : MemberId) (named : Callee) (insn : NInsn)
    (room at next : ℕ) (vs ws : List Value) (locals words : List (Option Value)) (store : Store) (memory : NMemory) :
    Type 0 where
  pub named_side : effects.effect by m at locals store (jop.Call op id) vs ≡ effects.Invoke op id
  pub narrow_side : narrow.effect (classes l) (operation insn) room next words memory ws ≡ narrow.Invoke named

-- The one instruction that is written for a call of this member calls what is named.
abbrev pub CallIsWritten : Linked → Named → Resolution → Method → (op : ℕ) → MemberId → Callee → Type 0
CallIsWritten by l r m op id named =
    (place : ℕ → ℕ) (insn : NInsn) → written r place (jop.Call op id) ≡ insn ∷ [] →
    (room at next : ℕ) (vs ws : List Value) (locals words : List (Option Value)) (store : Store) (memory : NMemory) →
    Invokes by l m op id named insn room at next vs ws locals words store memory
