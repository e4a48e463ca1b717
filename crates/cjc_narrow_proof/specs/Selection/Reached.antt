-- What is asked of a call of the package's methods, and of each that it may reach, so that whole runs agree through it.
use Rattle.std.specs.Prelude.{◌≡◌, ℕ, ◌+◌, List, [], ◌∷◌, ◌++◌, length, Option, Some, Bool, true, reverse, slice_get}
use Rattle.cjc_bytes.specs.declared.fault.MemberId.{MemberId}
use Rattle.cjc_code.specs.declared.insn.JInsn.{JInsn}
use Rattle.cjc_code.specs.declared.insn.JOp.TheVariants as jop
use Rattle.cjc_script.specs.declared.value.Value.{Value}
use Rattle.cjc_script.specs.Sorts.{Shape, OfClass, Signature}
use Rattle.cjc_ncode.specs.declared.narrow.NInsn.{NInsn}
use Rattle.cjc_ncode.specs.ByLabel.{Callee, Named}
use Rattle.cjc_jvm_semantics.specs.Linked.{Method, Linked}
use Rattle.cjc_jvm_semantics.specs.Linked
use Rattle.cjc_jvm_semantics.specs.Effects.{Store}
use Rattle.cjc_narrow_proof.specs.Selection.Relation.{Kind, Refers, NMemory}
use Rattle.cjc_narrow_proof.specs.Selection.Rows.{HasRoom}
use Rattle.cjc_narrow_proof.specs.Selection.Calls.{first_locals, Selects}
use Rattle.cjc_narrow_proof.specs.Selection.Callees.{Invokes}
use Rattle.cjc_narrow_proof.specs.Selection.Results.{AreShort}
use Rattle.cjc_narrow_proof.specs.Selection.Acts.{ActsAlike}
use Rattle.cjc_narrow_proof.specs.Selection.Replies.{result_kinds, SelectsImport, may_be_thrown, ThrowsAlike}
use Rattle.cjc_narrow_proof.specs.Selection.Tables.{Point, Table, code_of, spot, Arrives, Catches}

-- A call at a place, with arguments of these kinds, the receiver among them, on top of cells that stay; what is written
-- calls what is
-- named.
pub record IsCallAt (by : Linked) (l : Named) (tb : Table) (m : Method) (at : ℕ) (p : Point) (i : JInsn) (op : ℕ)
    (id : MemberId) (named : Callee) (params : List Kind) : Type 0 where
  pub ks : List Kind
  pub insn : NInsn
  pub is_call : i.op ≡ jop.Call op id
  pub stack : p.stack ≡ reverse params ++ ks
  pub is_written : slice_get (let code = code_of tb m in code.insns) (spot tb m at) ≡ Some insn
  pub is_named : (room next : ℕ) (vs ws : List Value) (locals words : List (Option Value)) (store : Store)
      (memory : NMemory) → Invokes by l m op id named insn room at next vs ws locals words store memory
  pub catches : Catches by l tb m at p.locals

-- A method that a call reaches begins with what is known of the arguments, and gives what its caller goes on with.
pub record MayBeCalled (tb : Table) (m : Method) (at : ℕ) (params ks ls : List Kind) (callee : Method) : Type 0 where
  pub enters : Arrives tb callee 0 (let start = tb.narrowed callee in start.at) [] (first_locals callee params)
  pub resumes : Arrives tb m (at + 1) (spot tb m at + 1) (tb.results callee ++ ks) ls
  pub has_room : HasRoom (tb.results callee ++ ks) m.max_stack (let code = code_of tb m in code.max_stack)

-- The caller of an imported method goes on behind the call with a result of these kinds.
pub record MayBeAnswered (tb : Table) (m : Method) (at : ℕ) (results ks ls : List Kind) : Type 0 where
  pub resumes : Arrives tb m (at + 1) (spot tb m at + 1) (results ++ ks) ls
  pub has_room : HasRoom (results ++ ks) m.max_stack (let code = code_of tb m in code.max_stack)

-- What both look-ups of a call select on a receiver of a type: a method of the package, which begins with what is known
-- of the arguments
-- and with a receiver that passes a test as this type does, or an imported one, with whose result its caller goes on.
pub data MaySelectOn (by : Linked) (l : Named) (tb : Table) (m : Method) (at : ℕ) (id : MemberId) (named : Callee)
    (within : Shape (List ℕ) → Bool) (types : Signature) (params ks ls : List Kind) (selected : List ℕ
    → Option Linked.Callee) (kind : Shape (List ℕ)) : Type 0 where
  inside : (h : Selects l tb.narrowed selected named (length (Refers within ∷ params)) kind)
      → (receives : Shape (List ℕ) → Bool) → receives kind ≡ true → MayBeCalled tb m at (Refers receives ∷ params) ks ls
      h.callee → MaySelectOn by l tb m at id named within types params ks ls selected kind
  abroad : SelectsImport by l selected id named types params kind → MayBeAnswered tb m at (result_kinds l types.result)
      ks ls → MaySelectOn by l tb m at id named within types params ks ls selected kind

-- What a script does is done alike: acts, and answers that throw, of classes that may be thrown.
pub record IsAnswered (by : Linked) (l : Named) (tb : Table) : Type 0 where
  pub acts : ActsAlike by l
  pub throws : (class : List ℕ) → ThrowsAlike by l class
  pub may_throw : (class : List ℕ) → may_be_thrown by class ≡ true → tb.may_throw (OfClass class) ≡ true

-- A method that an entry stands for begins with what is known of the arguments, and its result is the same on both
-- sides.
pub record MayBegin (tb : Table) (params : List Kind) (m : Method) : Type 0 where
  pub enters : Arrives tb m 0 (let start = tb.narrowed m in start.at) [] (first_locals m params)
  pub short : AreShort (tb.results m)
