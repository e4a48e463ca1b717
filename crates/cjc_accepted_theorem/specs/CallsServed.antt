-- What is known of calls of methods of superclasses in a converted package's code, and of its pairs of instructions.
use Rattle.std.specs.Prelude.{◌≡◌, ℕ, List, false}
use Rattle.cjc_verified_proof.specs.Bytecode.declared.insn.JOp.TheVariants as jop
use Rattle.cjc_verified_proof.specs.Bytecode.declared.method_code.MethodCode.{MethodCode}
use Rattle.cjc_verified_proof.specs.Bytes.declared.fault.MemberId.{MemberId}
use Rattle.cjc_verified_proof.specs.Components.Names.{names}
use Rattle.cjc_verified_proof.specs.Components.Package.{Package, world}
use Rattle.cjc_verified_proof.specs.JvmSemantics.OnePackage.{of_class}
use Rattle.cjc_verified_proof.specs.NCode.Lowering.Naming.{Holds}
use Rattle.cjc_verified_proof.specs.NCode.declared.narrow.PoolKey.TheVariants as keys
use Rattle.cjc_verified_proof.specs.TokenProof.Tables.Loading.{naming}
use Rattle.cjc_token_proof.specs.Subset.Ints.{works_on_int}
use Rattle.cjc_narrow_proof.specs.Laws.Unbroken.{IsInsnOf}
use Rattle.cjc_narrow_proof.specs.Tables.Analysis.{IsDecoded}
use Rattle.cjc_narrow_proof.specs.Tables.Pairs.{AreInPairs}
use Rattle.cjc_accepted_proof.specs.Beside.{Beside, IsBeside, body_by_name, names_in, opened_in}
use Rattle.cjc_accepted_proof.specs.Coded.{card_type, is_of}
use Rattle.cjc_accepted_proof.specs.Served.{CallServed}
use Rattle.cjc_accepted_proof.specs.Written.{written_pair}

-- a call of this instruction in a method's code is served
abbrev pub CallIsServed : Package → Beside → (opcode : ℕ) → MemberId → Type 0
CallIsServed p m opcode id = CallServed (card_type p) (is_of p) (world p) (written_pair p) (names p) (names_in p m)
    (body_by_name m) opcode id

-- calls of methods of superclasses that have no int in their descriptors
abbrev pub CallsAboveServed : Package → (codes : List MethodCode) → Type 0
CallsAboveServed p codes = (m : Beside) → IsBeside p m codes → (id : MemberId)
    → (let class = m.class in IsInsnOf p.files codes class (jop.Call 0xB7 id))
    → works_on_int (jop.Call 0xB7 id) ≡ false
    → (let class = m.class in Holds (naming p) (keys.Super (of_class class.name id)))
    → (let class = m.class in let r = names_in p m in r.special id ≡ keys.Super (of_class class.name id))
    → CallIsServed p m 0xB7 id

-- Methods are decoded, and their pairs are what their open ones say.
pub record ArePaired (p : Package) (codes : List MethodCode) : Type 0 where
  pub decoded : (m : Beside) → IsBeside p m codes → IsDecoded (body_by_name m)
  pub paired : (m : Beside) → IsBeside p m codes → AreInPairs (names_in p m) (body_by_name m) m.rows (opened_in p m)
